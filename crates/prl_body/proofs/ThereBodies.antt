-- A checked body has a name exactly where a body of the text has it, and an import.
use Rattle.prl_base.proofs.Standard.{◌≡◌, ℕ, Bool, true, false, List, [], ◌∷◌, ◌++◌, Option, Some, None, Result, Ok, refl, sym, ap, ◌∙◌, subst, ◌||◌, ◌&&◌, bytes_eq, bytes_eq-Decides}
use Rattle.std.specs.Option.{is_some}
use Rattle.prl_base.specs.Reading.{◌>>=◌}
use Rattle.prl_ast.specs.declared.declarations.Import.{Import}
use Rattle.prl_body.specs.Vocabulary.{BodyFault, BodyTree, checked_one, checked_bodies, has_text, has_body, import_named, TextTree}
use Rattle.prl_body.proofs.UsedBodies.{first_checked}

-- one body more, which no import has the name of
passed_over : (imports : List Import) (name n : List ℕ) (has : Bool) → import_named imports name ≡ None →
    (has && is_some (import_named imports n)) ≡ ((bytes_eq name n || has) && is_some (import_named imports n))
passed_over imports name n has none =
    elim (bytes_eq name n) as (λ b. bytes_eq name n ≡ b → (has && is_some (import_named imports n)) ≡ ((b || has) && is_some (import_named imports n))) [
      | true ↦ λ e.
          (let nobody : import_named imports n ≡ None = subst (λ m. import_named imports m ≡ None) ((bytes_eq-Decides name n).0 e) none in
          rw nobody (elim has as (λ h. (h && false) ≡ false) [ true ↦ refl | false ↦ refl ]))
      | false ↦ λ e. refl
    ] refl

-- one that an import has the name of
taken_in : (imports : List Import) (name n : List ℕ) (of : Import) (has : Bool) → import_named imports name ≡ Some of →
    (bytes_eq name n || (has && is_some (import_named imports n))) ≡ ((bytes_eq name n || has) && is_some (import_named imports n))
taken_in imports name n of has declared =
    elim (bytes_eq name n) as (λ b. bytes_eq name n ≡ b → (b || (has && is_some (import_named imports n))) ≡ ((b || has) && is_some (import_named imports n))) [
      | true ↦ λ e.
          (let somebody : import_named imports n ≡ Some of = subst (λ m. import_named imports m ≡ Some of) ((bytes_eq-Decides name n).0 e) declared in
          rw somebody refl)
      | false ↦ λ e. refl
    ] refl

there_next : (imports : List Import) (earlier bs : List TextTree) (b : TextTree) (rest : Result (List BodyTree) BodyFault) (ts : List BodyTree) (n : List ℕ) (o : Option Import) →
    import_named imports b.name ≡ o → ((xs : List BodyTree) → rest ≡ Ok xs → has_body xs n ≡ (has_text bs n && is_some (import_named imports n))) →
    checked_one earlier o b (λ x. (rest >>= λ xs. Ok (x ∷ xs))) rest ≡ Ok ts → has_body ts n ≡ (has_text (b ∷ bs) n && is_some (import_named imports n))
there_next imports earlier bs b rest ts n None declared others is = others ts is ∙ passed_over imports b.name n (has_text bs n) declared
there_next imports earlier bs b rest ts n (Some of) declared others is =
    let made = first_checked earlier of b rest ts is in
    ap (λ xs. has_body xs n) (sym made.same) ∙ ap (λ m. (bytes_eq m n || has_body made.others n)) made.ports.name_is
    ∙ ap (λ h. (bytes_eq b.name n || h)) (others made.others made.others_are) ∙ taken_in imports b.name n of (has_text bs n) declared

there_from : (imports : List Import) (earlier texts : List TextTree) (ts : List BodyTree) (n : List ℕ) → checked_bodies imports earlier texts ≡ Ok ts →
    has_body ts n ≡ (has_text texts n && is_some (import_named imports n))
there_from imports earlier [] ts n is =
    let same : [] ≡ ts = cc in
    subst (λ xs. has_body xs n ≡ false) same refl
there_from imports earlier (b ∷ bs) ts n is =
    there_next imports earlier bs b (checked_bodies imports (earlier ++ b ∷ []) bs) ts n (import_named imports b.name) refl
    (λ xs got. there_from imports (earlier ++ b ∷ []) bs xs n got) is

pub there : (imports : List Import) (texts : List TextTree) (ts : List BodyTree) (n : List ℕ) → checked_bodies imports [] texts ≡ Ok ts →
    has_body ts n ≡ (has_text texts n && is_some (import_named imports n))
there imports texts ts n is = there_from imports [] texts ts n is
