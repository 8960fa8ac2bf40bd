-- The names of the standard library that proofs of the crates above cite, from one place.
pub use Rattle.std.proofs.Common.{All, Bool, Bor, Err, FitsSigned, Global, IfErr, IfNone, IfOk, IfSome, IsErr, IsErrAnd, IsSome, IsTrue, List, MatchOption, MatchResult, None, Ok, OnErr, OnOk, Option}
pub use Rattle.std.proofs.Common.{Result, Some, T, Vec, [], add-one, add-zero, ap, append_assoc, ap₂, arith, below_more, codes, cond, count_by, decimal, drop, drop-cons, eqb, eqb→eq, false, filter}
pub use Rattle.std.proofs.Common.{find, fold, get_or, get_or-set_same, if◌then◌else◌, inl, inr, int_div, int_eq, int_le, int_lt, is_some, leb, length, length-append, length-drop, length-set}
pub use Rattle.std.proofs.Common.{length-take, lit<, ltb, map, max, min, nat_abs, nat_le, nat_lt, neg_ℤ, negsuc, not, of_z, pos, refl, replicate, reverse, rules, set, slice_get, slice_index}
pub use Rattle.std.proofs.Common.{slice_index_or, slice_set, subst, suc, sum, sum_by, sym, take, to_z, true, unsigned_abs, vec_items, vec_len, w64, zero, zero-add, ℕ, ℤ, ⊎_elim, ◌%◌, ◌&&◌, ◌*ℤ◌, ◌*◌}
pub use Rattle.std.proofs.Common.{◌++◌, ◌+ℤ◌, ◌+◌, ◌-ℤ◌, ◌-◌, ◌/◌, ◌<ℤ◌, ◌<◌, ◌==◌, ◌^◌, ◌||◌, ◌↔◌, ◌∙◌, ◌∷◌, ◌≡◌, ◌≢◌, ◌≤ℤ◌, ◌≤◌, ◌⊎◌}
pub use Rattle.std.proofs.Math.Facts.{Fits-of_lt, Fits-of_z, sfits_to_z}
pub use Rattle.std.proofs.Math.IntN.{*ℤ_comm, pos-*ℤ-negsuc, pos-*ℤ-pos, pred_ℤ, suc_ℤ-*ℤ, zero-*ℤ}
pub use Rattle.std.proofs.Math.ListN.{get_or-append, get_or-eq_default}
pub use Rattle.std.proofs.Math.Nat.{add-mul-div_right, add-mul-mod_self_right, div-add-mod, div-div-eq-div-mul, div-eq_of_eq-mul_left, div-eq_of_lt, div-le_of_le-mul, div-le_self, div-lt_iff_lt-mul}
pub use Rattle.std.proofs.Math.Nat.{div-mul-le_self, div-mul_cancel, div-one, div-zero, dvd-mul_left, dvd-mul_right, dvd_of_mul-dvd-mul_left, eq-zero_of_zero-dvd, eq_of_mul-eq-mul_left}
pub use Rattle.std.proofs.Math.Nat.{eq_of_mul-eq-mul_right, le-div_iff_mul-le, le-mul_of_pos_right, le_of_mul-le-mul_left, lt-div-mul-add, lt_of_mul-lt-mul_right, mod-add-div, mod-add-div'}
pub use Rattle.std.proofs.Math.Nat.{mod-add-mod, mod-eq_of_lt, mod-lt, mul-add, mul-div-mul_right, mul-div_cancel, mul-div_cancel', mul-dvd-mul_left, mul-le-mul_left, mul-le-mul_right, mul-mod_left}
pub use Rattle.std.proofs.Math.Nat.{mul-pos, mul_assoc, mul_comm, one-dvd}
pub use Rattle.std.proofs.Math.Path.{fun_ext}
pub use Rattle.std.proofs.Math.Seq.{drop-append-add, drop-append_seam, drop-length, get_or-append_right, get_or-append_seam, take-append-add, take-append_seam, take-length, take-suc}
pub use Rattle.std.proofs.lemmas.Bool.{OnFalse_at, OnFalse_from, OnTrue_at, agree_below_at, and_from, and_left, and_parts, both_ways, cases_Bool, cases_eq, cases_lt, cases_order, cond-false}
pub use Rattle.std.proofs.lemmas.Bool.{cond-true, cond_both, eq-eqb, eqb-true, false≢true, le-leb, le-ltb, leb-false, leb-true, lt-leb, lt-ltb, ltb-false, ltb-true, ne_eqb, or_cases, or_from, or_left}
pub use Rattle.std.proofs.lemmas.Bool.{or_parts, or_right, true≢false}
pub use Rattle.std.proofs.lemmas.Bool.Decides.{Decides-and, Decides-eqb, Decides-int_eq, eqb_tells, leb_tells, nat_tests}
pub use Rattle.std.proofs.lemmas.Cmp.{int_eq_equiv}
pub use Rattle.std.proofs.lemmas.Fmt.{decimal_is_IsNumeral, length-decimal-le}
pub use Rattle.std.proofs.lemmas.Fn.{filter_same}
pub use Rattle.std.proofs.lemmas.Grind.{div_ceil_times, flat_map-append, get_or-set_at, get_or_default_zero}
pub use Rattle.std.proofs.lemmas.Int.{by_lt_z, clamps, int_wrap_fits, ints, of_z-to_z, to_z-of_z, to_z_pos, wraps}
pub use Rattle.std.proofs.lemmas.List.{append-nil, drop-drop, drop-map, drop_all, drop_more, ext_get_or, flat_map_more, get_or-append-add, get_or-map, get_or-replicate, get_or-reverse}
pub use Rattle.std.proofs.lemmas.List.{get_or-set_other, get_or-take, get_or_append_left, get_or_default, get_or_past, get_or_push, get_or_read, length-map, length-replicate, length-reverse}
pub use Rattle.std.proofs.lemmas.List.{length-take-le, length_push, map-append, map-id, map-set, map_more, map_push, replicate_more, reverse-append, reverse-reverse, same_lists, set-get_or}
pub use Rattle.std.proofs.lemmas.List.{take-append-drop, take-append-le, take-map, take_all, take_more, take_rest, with_items_is}
pub use Rattle.std.proofs.lemmas.List.Edits.{swap_is}
pub use Rattle.std.proofs.lemmas.List.Elements.{All-append, All-cons, All-contains, All-filter, All-from_recursion, All-get_or, All-head, All-more, All-nil, All-push, All-same, All-tail, All-weaker}
pub use Rattle.std.proofs.lemmas.List.Elements.{Contains-append_cases, Contains-append_left, Contains-append_right, Contains-get_or, filter-append, filter_more, recursion_from_All}
pub use Rattle.std.proofs.lemmas.List.Folds.{flat_map-map, length-flat_map-take, list_all-append, list_all_at, sum_by-replicate}
pub use Rattle.std.proofs.lemmas.List.FromFn.{get_or-map-range_with_len, length-map-range_with_len, length-range_with_len, map-range_with_len_more}
pub use Rattle.std.proofs.lemmas.List.Sorted.{All-permutation, Contains-permutation, IsNonDecreasingBy-from_sort, IsNonDecreasingBy-from_sort_by_key, IsNonDecreasingBy-push}
pub use Rattle.std.proofs.lemmas.List.Sorted.{IsPermutation-append_right, IsPermutation-cons, IsPermutation-keeps, IsPermutation-middle, IsPermutation-push_more, IsPermutation-refl, IsPermutation-sym}
pub use Rattle.std.proofs.lemmas.List.Sorted.{IsPermutation-trans, non_decreasing_from_is_sorted, sum_by-IsPermutation, sum_by_popped, sum_by_pushed}
pub use Rattle.std.proofs.lemmas.List.Splits.{slice_split_at, slice_split_first}
pub use Rattle.std.proofs.lemmas.List.Sums.{AllPass-from_list_all, count_by-le-length, get_or-le-sum_by, list_all-from_AllPass, prefix_len-le-length, prefix_len_passes, prefix_len_stops, sum-map}
pub use Rattle.std.proofs.lemmas.List.Sums.{sum_by-append, sum_by-cons, sum_by-set, sum_by-take-le, sum_by_more}
pub use Rattle.std.proofs.lemmas.Map.Keys.{IsDistinct-IsPermutation, IsDistinct-cons, IsDistinct-from_apart, IsDistinct-head, IsDistinct-tail, IsStrictlyIncreasing-from_distinct, apart_from_distinct}
pub use Rattle.std.proofs.lemmas.Map.Steps.{le-length_from_below, length-le_from_distinct_below}
pub use Rattle.std.proofs.lemmas.Map.Text.{btree_map_updates_str}
pub use Rattle.std.proofs.lemmas.Nat.{div-add-mod', div-mul-add, div_below, le-div, mod-mul-add, mod_below}
pub use Rattle.std.proofs.lemmas.Nat.Gcd.{IsGcd-from_mod, IsGcd-from_sub, IsGcd-from_zero, IsGcd-swap, dvd_antisymm, dvd_of_mod-eq-zero, le_of_dvd, mod-eq-zero_of_dvd, same_from_IsGcd}
pub use Rattle.std.proofs.lemmas.Option.{IfSome_then, MatchOption-at_some, get_or_from_slice_get, none-some, same_Some, slice_get-get_or, slice_get-map, slice_get_cases, slice_get_past}
pub use Rattle.std.proofs.lemmas.Option.{slice_get_read, slice_get_within, unwrap_or-slice_get}
pub use Rattle.std.proofs.lemmas.Result.{IfOk-weaker, err_from_is_err_and}
pub use Rattle.std.proofs.lemmas.Simd.{map-map}
pub use Rattle.std.proofs.lemmas.Slice.Eq.{bytes_eq-Decides}
pub use Rattle.std.proofs.lemmas.Str.Parse.{numerals_by_value, tells_all_ascii_digits}
pub use Rattle.std.specs.BTreeMap.{BTreeMap, UpdatesBy, get}
pub use Rattle.std.specs.BinaryHeap.{IsUpperBound, heap_items}
pub use Rattle.std.specs.Bool.{OnFalse, OnTrue}
pub use Rattle.std.specs.Char.{digit_value, is_ascii_digit}
pub use Rattle.std.specs.Cmp.Lexicographic.{bytes_decides, slice_cmp}
pub use Rattle.std.specs.Fmt.{digit_glyph, digits_onto, signed_decimal}
unfoldable pub use Rattle.std.specs.Fmt.{digits}
pub use Rattle.std.specs.Int.{IsGcd, cast_signed, cast_unsigned, div_ceil, int_max, int_wrapping_div, w128, ◌∣◌}
unfoldable pub use Rattle.std.specs.Int.{int_wrap}
pub use Rattle.std.specs.List.{AllByRecursion, AllPass, Contains, after_first, before_first, flat_map, list_all, list_any, onto_first, position_or_len, prefix_len, range_with_len, slice_split, swap}
unfoldable pub use Rattle.std.specs.List.{IsDistinct}
pub use Rattle.std.specs.List.Sorted.{IsNonDecreasing, IsNonDecreasingBy, IsPermutation, IsStrictlyIncreasing}
pub use Rattle.std.specs.Mem.Slots.{slots_items}
pub use Rattle.std.specs.Option.{option_and_then, option_copied, option_map, option_map_or, option_to_list}
pub use Rattle.std.specs.Ordering.{is_eq, is_lt, nat_cmp}
pub use Rattle.std.specs.Prelude.{unwrap_or}
pub use Rattle.std.specs.Str.{byte, bytes_eq}
pub use Rattle.std.specs.Str.Parse.{AllDigits, digits_value, digits_value_after, without_leading_plus}
pub use Rattle.std.specs.String.{string_bytes}
pub use Rattle.std.specs.Vec.{with_item}
