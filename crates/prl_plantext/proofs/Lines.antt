-- Lines of a plan's text, piece by piece as they are written.
use Rattle.prl_base.proofs.Standard.{◌≡◌, ◌++◌, ℕ, List, [], ◌∷◌, map, length, codes, decimal, refl, ap, append_assoc, sym, ◌∙◌, flat_map, byte, flat_map-map}
use Rattle.prl_base.specs.Texts.{type_text, value_text}
use Rattle.prl_plan.specs.declared.graphs.Edge.{Edge}
use Rattle.prl_plan.specs.declared.graphs.Task.{Task}
use Rattle.prl_plan.specs.declared.tables.Window.{Window}
use Rattle.prl_plan.specs.declared.words.Word.{Word}
use Rattle.prl_plantext.specs.PlanTexts.{after_blank, dates_words, edge_words, kind_text, line, line_rest, operators_words, pair_text, producer_words, task_words, window_text, word_words}

pub line_rest_of_two : (first second : List (List ℕ)) →
    line_rest (first ++ second) ≡ flat_map after_blank first ++ line_rest second
line_rest_of_two [] second = refl
line_rest_of_two (word ∷ words) second =
    ap (λ t. byte " " ∷ word ++ t) (line_rest_of_two words second)
    ∙ ap (λ t. byte " " ∷ t) (sym (append_assoc word (flat_map after_blank words) (line_rest second)))

pub line_rest_of_all : (words : List (List ℕ)) → line_rest words ≡ flat_map after_blank words ++ byte "\n" ∷ []
line_rest_of_all [] = refl
line_rest_of_all (word ∷ words) =
    ap (λ t. byte " " ∷ word ++ t) (line_rest_of_all words)
    ∙ ap (λ t. byte " " ∷ t) (sym (append_assoc word (flat_map after_blank words) (byte "\n" ∷ [])))

pub line_rest_of_map : {A : Type 0} (word : A → List ℕ) (items : List A) (second : List (List ℕ)) →
    line_rest (map word items ++ second) ≡ flat_map (λ item. after_blank (word item)) items ++ line_rest second
line_rest_of_map word items second =
    line_rest_of_two (map word items) second ∙ ap (λ t. t ++ line_rest second) (flat_map-map after_blank word items)

pub line_rest_of_mapped : {A : Type 0} (word : A → List ℕ) (items : List A) →
    line_rest (map word items) ≡ flat_map (λ item. after_blank (word item)) items ++ byte "\n" ∷ []
line_rest_of_mapped word items =
    line_rest_of_all (map word items) ∙ ap (λ t. t ++ byte "\n" ∷ []) (flat_map-map after_blank word items)

-- a text to which more is added
pub more : {a b c : List ℕ} (x : List ℕ) → b ≡ a ++ x → a ≡ c → b ≡ c ++ x
more x e same = e ∙ ap (λ t. t ++ x) same

-- a text to which two pieces are added
pub more_both : {a b c : List ℕ} (x y : List ℕ) → b ≡ (a ++ x) ++ y → a ≡ c → b ≡ (c ++ x) ++ y
more_both x y e same = e ∙ ap (λ t. (t ++ x) ++ y) same

pub task_line : (t : List ℕ) (k : ℕ) (task : Task) →
    ((((((((t ++ codes "task ") ++ decimal k) ++ codes " ") ++ task.name) ++ codes " ") ++ kind_text task.kind)
    ++ (codes " period " ++ decimal task.clock.period ++ codes " start " ++ decimal task.clock.start))
    ++ (codes " due " ++ decimal task.due ++ codes " wcet " ++ decimal task.wcet)) ++ codes "\n"
    ≡ t ++ line (task_words k task)
task_line t k task = simp append_assoc

pub dates_line : (t : List ℕ) (k : ℕ) (windows : List Window) →
    (((t ++ codes "dates ") ++ decimal k) ++ flat_map (λ w. after_blank (window_text w)) windows) ++ codes "\n"
    ≡ t ++ line (dates_words k windows)
dates_line t k windows = rw (line_rest_of_mapped window_text windows) (simp append_assoc)

edge_parts : (t number from to ty period ops : List ℕ) →
    (((((((((t ++ codes "edge ") ++ number) ++ codes " from") ++ from) ++ codes " to ") ++ to) ++ (codes " type " ++ ty ++ codes " period " ++ period))
    ++ codes " ops") ++ ops) ++ codes "\n"
    ≡ t ++ (codes "edge " ++ (number ++ (codes " from" ++ (from ++ (codes " to " ++ (to ++ (codes " type " ++ (ty ++ (codes " period " ++ (period ++ (codes " ops" ++ (ops ++ codes "\n"))))))))))))
edge_parts t number from to ty period ops = simp append_assoc

pub edge_line : (t : List ℕ) (k : ℕ) (edge : Edge) →
    (((((((((t ++ codes "edge ") ++ decimal k) ++ codes " from") ++ flat_map after_blank (producer_words edge.from)) ++ codes " to ")
    ++ pair_text edge.to.0 46 edge.port) ++ (codes " type " ++ type_text edge.ty ++ codes " period " ++ decimal edge.period)) ++ codes " ops")
    ++ flat_map after_blank (operators_words edge.ops)) ++ codes "\n"
    ≡ t ++ line (edge_words k edge)
edge_line t k edge =
    rw (line_rest_of_two (producer_words edge.from) _) (rw (line_rest_of_all (operators_words edge.ops))
    (edge_parts t (decimal k) (flat_map after_blank (producer_words edge.from)) (pair_text edge.to.0 46 edge.port) (type_text edge.ty) (decimal edge.period)
    (flat_map after_blank (operators_words edge.ops))))

pub word_line : (t : List ℕ) (k : ℕ) (word : Word) →
    (((((((((((t ++ codes "word ") ++ decimal k) ++ codes " prefix ") ++ decimal (length word.prefix)) ++ flat_map (λ v. after_blank (value_text v)) word.prefix) ++ codes " repeat")
    ++ flat_map (λ n. after_blank (decimal n)) word.repeat) ++ codes " step ") ++ decimal word.step_in) ++ codes " ") ++ decimal word.step_out) ++ codes "\n"
    ≡ t ++ line (word_words k word)
word_line t k word =
    rw (line_rest_of_map value_text word.prefix _) (rw (line_rest_of_map decimal word.repeat _) (simp append_assoc))
