-- The records that are left after one is read.
use Rattle.std.proofs.Common.{◌≡◌, ◌<◌, ◌⊎◌, ℕ, zero, suc, ◌+◌, Bool, true, false, cond, List, [], ◌∷◌, ◌++◌, length, refl, sym, ap, subst, ◌∙◌, Some, None, inl, inr, arith, add-one, Bor}
use Rattle.csv.specs.Machine.{Read, field_after, fields_after, is_end, ends_at_end, next_record, step}
use Rattle.csv.specs.Reading.{Reached, ReadRecord, default_config, reader_state, records_from, records_next, took_first}
use Rattle.csv.specs.declared.reader.Reader.{Reader}
use Rattle.csv.proofs.ReadFacts.{rows-end, rows-more}
use Rattle.prl_sensors.proofs.Firsts.{some_is}
use Rattle.prl_sensors.specs.code.Left.{HasLeft, Reads}
use Rattle.csv.specs.declared.parser.Config.{Config}
use Rattle.csv.specs.declared.parser.State.{State}
use Rattle.csv.specs.declared.parser.State.TheVariants as st

-- what is left after a record is shorter, or there is nothing left
abbrev IsShorter : List ℕ → Read → Type 0
IsShorter xs p = (length p.2 < length xs) ⊎ ((p.1 ≡ st.StartRecord) × (p.2 ≡ []))

longer : (c : ℕ) (xs : List ℕ) (p : Read) → IsShorter xs p → IsShorter (c ∷ xs) p
longer c xs p (inl h) = inl (omega arith)
longer c xs p (inr h) = inr h

at_end : (b : Bool) (r p : Read) → (r.1 ≡ st.StartRecord) × (r.2 ≡ []) → cond b (Some r) None ≡ Some p → IsShorter [] p
at_end true r p h e = inr (rw (sym (some_is r p e)) h)
at_end false r p h e = cc

shorter : (cfg : Config) (s : State) (fields : List (List ℕ)) (field xs : List ℕ) (p : Read)
    → next_record cfg s fields field xs ≡ Some p → IsShorter xs p
unfolding next_record
shorter cfg s fields field [] p e = at_end (ends_at_end s) (fields ++ field ∷ [], st.StartRecord, []) p (refl, refl) e
shorter cfg s fields field (c ∷ xs) p e =
    elim (is_end (step cfg s c).1) as (λ b. cond b (Some (fields_after (step cfg s c).1 fields field, (step cfg s c).0, xs)) (next_record cfg (step cfg s c).0 (fields_after (step cfg s c).1 fields field) (field_after (step cfg s c).1 c field) xs) ≡ Some p → IsShorter (c ∷ xs) p) [
      | true ↦ λ h. inl (subst (λ (q : Read). length q.2 < suc (length xs)) (some_is _ p h) (omega arith))
      | false ↦ λ h. longer c xs p (shorter cfg (step cfg s c).0 (fields_after (step cfg s c).1 fields field) (field_after (step cfg s c).1 c field) xs p h)
    ] e

none_left : (cfg : Config) (n : ℕ) → records_from cfg n st.StartRecord [] ≡ []
unfolding records_from next_record
none_left cfg zero = refl
none_left cfg (suc n) = refl

-- more turns than bytes are turns enough
after : (cfg : Config) (n m : ℕ) (xs : List ℕ) (p : Read)
    → ((s : State) (ys : List ℕ) → length ys < n → length ys < m → records_from cfg n s ys ≡ records_from cfg m s ys)
    → IsShorter xs p → length xs < suc n → length xs < suc m → records_from cfg n p.1 p.2 ≡ records_from cfg m p.1 p.2
after cfg n m xs p fewer (inl h) a b = fewer p.1 p.2 (omega arith) (omega arith)
after cfg n m xs p fewer (inr h) a b = rw (h.0, h.1) (none_left cfg n ∙ sym (none_left cfg m))

enough : (cfg : Config) (n m : ℕ) (s : State) (xs : List ℕ) → length xs < n → length xs < m
    → records_from cfg n s xs ≡ records_from cfg m s xs
unfolding records_from
enough cfg zero m s xs a b = absurd (omega arith)
enough cfg (suc n) zero s xs a b = absurd (omega arith)
enough cfg (suc n) (suc m) s xs a b =
    elim (next_record cfg s [] [] xs) as (λ o. next_record cfg s [] [] xs ≡ o → records_next (records_from cfg n) o ≡ records_next (records_from cfg m) o) [
      | None ↦ λ e. refl
      | Some p ↦ λ e. ap (λ rest. p.0 ∷ rest) (after cfg n m xs p (λ t ys. enough cfg n m t ys) (shorter cfg s [] [] xs p e) a b)
    ] refl

after_first : (cfg : Config) (xs : List ℕ) (p : Read) → IsShorter xs p
    → records_from cfg (length xs) p.1 p.2 ≡ records_from cfg (length p.2 + 1) p.1 p.2
after_first cfg xs p (inl h) = enough cfg (length xs) (length p.2 + 1) p.1 p.2 h (omega arith)
after_first cfg xs p (inr h) = rw (h.0, h.1) (none_left cfg (length xs) ∙ sym (none_left cfg 1))

pub left_some : (cfg : Config) (s : State) (xs : List ℕ) (p : Read) → next_record cfg s [] [] xs ≡ Some p
    → records_from cfg (length xs + 1) s xs ≡ p.0 ∷ records_from cfg (length p.2 + 1) p.1 p.2
unfolding records_from
left_some cfg s xs p e =
    ap (λ n. records_from cfg n s xs) (add-one (length xs))
    ∙ ap (records_next (records_from cfg (length xs))) e
    ∙ ap (λ rest. p.0 ∷ rest) (after_first cfg xs p (shorter cfg s [] [] xs p e))

pub left_none : (cfg : Config) (s : State) (xs : List ℕ) → next_record cfg s [] [] xs ≡ None
    → records_from cfg (length xs + 1) s xs ≡ []
unfolding records_from
left_none cfg s xs e = rw (add-one (length xs), e) refl

same_left : (cfg : Config) (f g : List (List ℕ)) (s t : State) (y z : List ℕ) → f ≡ g → s ≡ t → y ≡ z
    → g ∷ records_from cfg (length y + 1) s y ≡ f ∷ records_from cfg (length z + 1) t z
same_left cfg f g s t y z a b c = rw (a, b, c) refl

-- what a read of a record says of the records that were left
pub read_on : (a b : Reader (Bor (List ℕ))) (found : Bool) (fields : List (List ℕ)) (left : List (List (List ℕ)))
    → HasLeft a left → ReadRecord (λ s. Some s.now) a b found fields → took_first b ≡ true → Reads left found fields b
unfolding Reached
read_on a b true fields left h r first =
    let (z, at_z, reached) = rows-more (λ (s : Bor (List ℕ)). Some s.now) a b fields default_config (reader_state a) h.bytes h.bytes [] h.config h.source (refl, refl) r in
    let (p, next, is, ends) = reached in (
      records_from default_config (length z + 1) (reader_state b) z,
      h.records ∙ left_some default_config (reader_state a) h.bytes p next
          ∙ same_left default_config fields p.0 p.1 (reader_state b) p.2 z is ends.0 ends.1,
      record { trim = r.3 ∙ h.trim; ready = inl first; config = r.2 ∙ h.config; bytes = z; source = at_z; records = refl },
    )
read_on a b false fields left h r first =
    h.records
    ∙ left_none default_config (reader_state a) h.bytes (rows-end (λ (s : Bor (List ℕ)). Some s.now) a b fields default_config h.bytes h.config h.source r)
