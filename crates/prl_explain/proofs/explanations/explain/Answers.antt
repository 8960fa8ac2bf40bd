use Rattle.prl_base.proofs.Standard.{◌≡◌, ◌∙◌, ℕ, List, Option, map, drop, Result, Ok, Err, ap, sym, subst, IfOk, IfErr, vec_items, string_bytes, drop-map, OnFalse, OnFalse_at, OnFalse_from}
use Rattle.prl_io.specs.Views.{SinkView}
use Rattle.prl_io.specs.declared.endings.Stop.{Stop}
use Rattle.prl_io.specs.Endings.{Ends}
use Rattle.prl_explain.specs.Explanations.{IsAnswer, IsStop, asks_help}
use Rattle.prl_arguments.specs.Dashes.{before_dashes, from_dashes}
use Rattle.prl_explain.proofs.explanations.explain.Goals as goal

-- an outcome with its text as a list of bytes
abbrev seen : {A : Type 0} → (A → List ℕ) → Result A Stop → Result (List ℕ) Stop
seen view (Ok text) = Ok (view text)
seen view (Err stop) = Err stop

ends_so : {A : Type 0} (view : A → List ℕ) (r : Result A Stop) (out out' err err' : SinkView) (code : ℕ)
    → Ends view r out out' err err' code → Ends (λ text. text) (seen view r) out out' err err' code
ends_so view (Ok text) out out' err err' code h = h
ends_so view (Err stop) out out' err err' code h = h

text_so : {A : Type 0} (view : A → List ℕ) (r : Result A Stop) (P : List ℕ → Type 0)
    → IfOk r (λ text. P (view text)) → IfOk (seen view r) P
text_so view (Ok text) P h = h
text_so view (Err stop) P h = h

stop_so : {A : Type 0} (view : A → List ℕ) (r : Result A Stop) (P : Stop → Type 0) → IfErr r P → IfErr (seen view r) P
stop_so view (Ok text) P h = h
stop_so view (Err stop) P h = h

given_so : (P : List (List ℕ) → Option (List (List ℕ)) → Type 0) (own own' : List (List ℕ)) (command command' : Option (List (List ℕ)))
    → own ≡ own' → command ≡ command' → P own command → P own' command'
given_so P own own' command command' same given h =
    subst (λ (ws : Option (List (List ℕ))). P own' ws) given (subst (λ (ws : List (List ℕ)). P ws command) same h)

pub returns : goal.returns
returns g c =
    let all = map string_bytes c.args.words.now in
    let words : map string_bytes c.after_name-words.result.now ≡ drop 1 all = ap (map string_bytes) c.after_name-words.ensures ∙ sym (drop-map string_bytes 1 c.args.words.now) in
    let own = c.before_dashes-own.ensures ∙ ap before_dashes words in
    let command = c.from_dashes-command.ensures ∙ ap from_dashes words in
    let files = g.F.Files.seen c.args.files.now in
    let after = g.F.Files.seen c.answer-outcome.new.files in
    let line = c.args.line.now in
    let outcome = seen vec_items c.answer-outcome.result in
    record {
      outcome = outcome;
      ends = ends_so vec_items c.answer-outcome.result _ _ _ _ _ c.finish.ensures;
      text = subst (λ (ws : List (List ℕ)). OnFalse (asks_help ws) (IfOk outcome (IsAnswer files.folder (before_dashes (drop 1 all)) (from_dashes (drop 1 all)) line))) words
          (OnFalse_from (asks_help (map string_bytes c.after_name-words.result.now)) _
          (λ no. given_so (λ (ws : List (List ℕ)) (rest : Option (List (List ℕ))). IfOk outcome (IsAnswer files.folder ws rest line)) _ _ _ _ own command
          (text_so vec_items c.answer-outcome.result _ (OnFalse_at no c.answer-outcome.ensures.text))));
      stop = subst (λ (ws : List (List ℕ)). IfErr outcome (IsStop files after ws)) own (stop_so vec_items c.answer-outcome.result _ c.answer-outcome.ensures.stop);
    }
