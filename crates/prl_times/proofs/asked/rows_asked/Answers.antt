use Rattle.prl_base.proofs.Standard.{◌≡◌, ℕ, List, [], All, Option, MatchOption, IfOk-weaker, ap, codes, inl, inr, is_some, map, string_bytes, sym, subst}
use Rattle.prl_base.specs.declared.numbers.TaskNo.{TaskNo}
use Rattle.prl_io.specs.Pairs.{value_of}
use Rattle.prl_timetext.specs.Names.{names_joined}
use Rattle.prl_times.specs.Rows.{IsRow}
use Rattle.prl_times.specs.Told.{AreAllRows, IsChainRow, IsSkewRow}
use Rattle.prl_times.proofs.Refusals.{outcome_refused, refused_by_usage}
use Rattle.prl_times.proofs.RowLists.{both}
use Rattle.prl_times.proofs.asked.rows_asked.Goals as goal

pub returns-in-Some-default-clause-told : goal.returns-in-Some-default-clause-told
returns-in-Some-default-clause-told c =
    both c.chain_rows.result _ _ _ c.chain_rows.ensures.shape c.chain_rows.ensures.right
    (λ rows shape right. record {
      until = 0;
      right = right 0;
      asked = c.requires.asked;
      once = c.requires.once;
      shape = subst (λ (o : Option (List ℕ)). MatchOption o
          (MatchOption (value_of (codes "--skew") (map string_bytes c.args.words.now)) (AreAllRows c.args.plan.now (map string_bytes c.args.words.now) c.args.chain.now 0 rows.items)
          (λ word. IsSkewRow c.args.plan.now (map string_bytes c.args.words.now) rows.items))
          (λ word. IsChainRow c.args.chain.now rows.items)) c.in-Some-default.ensures shape;
    })

pub returns-in-None-Some-clause-told : goal.returns-in-None-Some-clause-told
returns-in-None-Some-clause-told c =
    both c.skew_asked.result _ _ _ c.skew_asked.ensures.shape c.skew_asked.ensures.right
    (λ rows shape right. record {
      until = 0;
      right = right c.args.chain.now 0;
      asked = c.requires.asked;
      once = c.requires.once;
      shape = subst (λ (o : Option (List ℕ)). MatchOption o
          (MatchOption (value_of (codes "--skew") (map string_bytes c.args.words.now)) (AreAllRows c.args.plan.now (map string_bytes c.args.words.now) c.args.chain.now 0 rows.items)
          (λ word. IsSkewRow c.args.plan.now (map string_bytes c.args.words.now) rows.items))
          (λ word. IsChainRow c.args.chain.now rows.items)) c.in-None-Some.ensures
          (subst (λ (o : Option (List ℕ)). MatchOption o (AreAllRows c.args.plan.now (map string_bytes c.args.words.now) c.args.chain.now 0 rows.items)
          (λ word. IsSkewRow c.args.plan.now (map string_bytes c.args.words.now) rows.items)) c.in-None-Some.ensures' shape);
    })

pub returns-in-None-None-clause-told : goal.returns-in-None-None-clause-told
returns-in-None-None-clause-told c =
    let empty : c.args.chain.now ≡ [] =
    subst (λ (o : Option (List ℕ)). MatchOption o (c.args.chain.now ≡ []) (λ word. names_joined c.args.plan.now.graph c.args.chain.now ≡ word)) (sym c.in-None-None.ensures) c.requires.asked.1 in
    IfOk-weaker c.all_rows.result _ _
    (λ rows told. record {
      until = told.0;
      right = subst (λ (xs : List TaskNo). All (IsRow c.args.plan.now xs told.0) rows.items) (sym empty) told.2;
      asked = c.requires.asked;
      once = c.requires.once;
      shape = subst (λ (o : Option (List ℕ)). MatchOption o
          (MatchOption (value_of (codes "--skew") (map string_bytes c.args.words.now)) (AreAllRows c.args.plan.now (map string_bytes c.args.words.now) c.args.chain.now told.0 rows.items)
          (λ word. IsSkewRow c.args.plan.now (map string_bytes c.args.words.now) rows.items))
          (λ word. IsChainRow c.args.chain.now rows.items)) c.in-None-None.ensures
          (subst (λ (o : Option (List ℕ)). MatchOption o (AreAllRows c.args.plan.now (map string_bytes c.args.words.now) c.args.chain.now told.0 rows.items)
          (λ word. IsSkewRow c.args.plan.now (map string_bytes c.args.words.now) rows.items)) c.in-None-None.ensures'
          (subst (λ (xs : List TaskNo). AreAllRows c.args.plan.now (map string_bytes c.args.words.now) xs told.0 rows.items) (sym empty) told.1));
    })
    c.all_rows.ensures.told

pub returns-in-Some-default-clause-refused : goal.returns-in-Some-default-clause-refused
returns-in-Some-default-clause-refused c =
    outcome_refused c.chain_rows.result _ _ c.chain_rows.ensures.short
    (λ fault is. refused_by_usage c.args.plan.now (map string_bytes c.args.words.now) _ fault is
    (λ short. inr (inr (inl (c.args.chain.now, c.requires.asked, sym (ap is_some c.in-Some-default.ensures), inl short)))))
