-- Records in plain form, and what `csv` reads them as.
use Rattle.prl_base.proofs.Standard.{◌≡◌, ◌==◌, ◌||◌, ◌+◌, ◌++◌, ◌∷◌, ◌∙◌, [], ℕ, suc, List, Bool, Some, refl, sym, ap, subst, arith, true, false, append_assoc, inl, inr, length, take, slice_index_or}
use Rattle.prl_base.proofs.Standard.{◌<◌, ◌≤◌, position_or_len, append-nil, cases_Bool, eqb-true, ne_eqb}
use Rattle.csv.specs.Machine.{next_record}
use Rattle.csv.specs.Reading.{default_config, records, strip_bom}
use Rattle.csv.specs.declared.parser.State.TheVariants as st
use Rattle.csv.proofs.RoundTrip.{record-same, start-same}
use Rattle.prl_sensors.specs.code.Plain.{IsPlain, is_mark}
use Rattle.prl_sensors.proofs.LeftRecords.{left_none, left_some}

first_false : (a b : Bool) → (a || b) ≡ false → a ≡ false
first_false false b e = refl
first_false true b e = cc e

second_false : (a b : Bool) → (a || b) ≡ false → b ≡ false
second_false false b e = e
second_false true b e = cc e

-- a plain byte is none of the marks
no_mark : (b m : ℕ) → is_mark b ≡ false → is_mark m ≡ true → (b == m) ≡ false
no_mark b m plain mark = ne_eqb b m (λ e. cc (sym plain ∙ ap is_mark e ∙ mark))

one_more : (x n : ℕ) (xs : List ℕ) → is_mark x ≡ false → IsPlain (take n xs) → IsPlain (take (1 + n) (x ∷ xs))
one_more x n xs plain rest =
    let e : 1 + n ≡ suc n = omega arith in
    subst (λ m. IsPlain (take m (x ∷ xs))) (sym e) (rw plain rest)

-- the bytes before the first mark are plain
pub plain_front : (xs : List ℕ) → IsPlain (take (position_or_len is_mark xs) xs)
plain_front [] = refl
plain_front (x ∷ xs) = elim (cases_Bool (is_mark x)) [
  | inl mark ↦ rw mark refl
  | inr plain ↦ rw plain (one_more x (position_or_len is_mark xs) xs plain (plain_front xs))
]

-- plain bytes join the field at hand
in_field : (fields : List (List ℕ)) (field x tail : List ℕ) → IsPlain x
    → next_record default_config st.InField fields field (x ++ tail) ≡ next_record default_config st.InField fields (field ++ x) tail
unfolding next_record
in_field fields field [] tail e = rw (append-nil field) refl
in_field fields field (b ∷ rest) tail e =
    let p = first_false _ _ e in
    rw (no_mark b 44 p refl, no_mark b 13 p refl, no_mark b 10 p refl) (in_field fields (field ++ (b ∷ [])) rest tail (second_false _ _ e)
    ∙ ap (λ (f : List ℕ). next_record default_config st.InField fields f tail) (append_assoc field (b ∷ []) rest))

-- a plain field, from its start
whole_field : (fields : List (List ℕ)) (x : List ℕ) (c : ℕ) (tail : List ℕ) → (c == 34) ≡ false → IsPlain x
    → next_record default_config st.StartField fields [] (x ++ (c ∷ tail)) ≡ next_record default_config st.InField fields x (c ∷ tail)
whole_field fields [] c tail n p = start-same fields [] c tail n
whole_field fields (b ∷ rest) c tail n p =
    start-same fields [] b (rest ++ (c ∷ tail)) (no_mark b 34 (first_false _ _ p) refl) ∙ in_field fields [] (b ∷ rest) (c ∷ tail) p

first_field : (x tail : List ℕ) → IsPlain x
    → next_record default_config st.StartRecord [] [] (x ++ (44 ∷ tail)) ≡ next_record default_config st.StartField [] [] (x ++ (44 ∷ tail))
first_field [] tail p = record-same [] [] 44 tail refl refl
first_field (b ∷ rest) tail p =
    let n = first_false _ _ p in
    record-same [] [] b (rest ++ (44 ∷ tail)) (no_mark b 13 n refl) (no_mark b 10 n refl)

end_field : (fields : List (List ℕ)) (x u : List ℕ)
    → next_record default_config st.InField fields x (44 ∷ u) ≡ next_record default_config st.StartField (fields ++ (x ∷ [])) [] u
unfolding next_record
end_field fields x u = refl

end_row : (fields : List (List ℕ)) (x u : List ℕ)
    → next_record default_config st.InField fields x (10 ∷ u) ≡ Some (fields ++ (x ∷ []), st.StartRecord, u)
unfolding next_record
end_row fields x u = refl

-- three plain fields with a line feed right after them are the next record
three_fields : (name instance value rest : List ℕ) → IsPlain name → IsPlain instance → IsPlain value
    → next_record default_config st.StartRecord [] [] (name ++ (44 ∷ (instance ++ (44 ∷ (value ++ (10 ∷ rest))))))
    ≡ Some (name ∷ instance ∷ value ∷ [], st.StartRecord, rest)
three_fields name instance value rest a b c =
    first_field name (instance ++ (44 ∷ (value ++ (10 ∷ rest)))) a
    ∙ whole_field [] name 44 (instance ++ (44 ∷ (value ++ (10 ∷ rest)))) refl a
    ∙ end_field [] name (instance ++ (44 ∷ (value ++ (10 ∷ rest))))
    ∙ whole_field (name ∷ []) instance 44 (value ++ (10 ∷ rest)) refl b
    ∙ end_field (name ∷ []) instance (value ++ (10 ∷ rest))
    ∙ whole_field (name ∷ instance ∷ []) value 10 rest refl c
    ∙ end_row (name ∷ instance ∷ []) value rest

pub plain_record : (text after_name after_instance rest name instance value : List ℕ) → IsPlain name → IsPlain instance → IsPlain value
    → text ≡ name ++ 44 ∷ after_name → after_name ≡ instance ++ 44 ∷ after_instance → after_instance ≡ value ++ 10 ∷ rest
    → records default_config text ≡ (name ∷ instance ∷ value ∷ []) ∷ records default_config rest
plain_record text after_name after_instance rest name instance value a b c e f g =
    rw (e, f, g) (left_some default_config st.StartRecord (name ++ (44 ∷ (instance ++ (44 ∷ (value ++ (10 ∷ rest))))))
    (name ∷ instance ∷ value ∷ [], st.StartRecord, rest) (three_fields name instance value rest a b c))

-- a text that does not start with the first byte of a byte order mark has none
pub no_bom : (text : List ℕ) → 1 ≤ length text → (slice_index_or text 0 0 == 0xEF) ≡ false → strip_bom text ≡ text
unfolding strip_bom
no_bom [] some n = refl
no_bom (b ∷ []) some n = refl
no_bom (b ∷ c ∷ []) some n = refl
no_bom (b ∷ c ∷ d ∷ rest) some n = rw n refl

pub none_bom : (text : List ℕ) → length text < 1 → strip_bom text ≡ text
unfolding strip_bom
none_bom [] none = refl
none_bom (b ∷ rest) none = absurd (omega (arith, none))

pub no_records : (text : List ℕ) → (length text == 0) ≡ true → records default_config text ≡ []
unfolding next_record
no_records [] empty = left_none default_config st.StartRecord [] refl
no_records (b ∷ rest) empty = absurd (omega (arith, eqb-true (length (b ∷ rest)) 0 empty))
