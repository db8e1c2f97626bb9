-- The names of the libraries that proofs use, for one import. Definitions and contracts name the libraries themselves. Assumes nothing.
unfoldable pub use Prim.Native.Nat.{◌<◌}
pub use Prim.Native.Nat.{◌%◌, ◌*◌, ◌+◌, ◌-◌, ◌/◌, ◌^◌, ◌≤◌, max, suc, suc-le-suc, zero, zero-le, ℕ}
unfoldable pub use mathlib.Core.Path.{◌∙◌, ◌≡◌, ap, ap₂, fun_ext, refl, subst, sym}
pub use mathlib.Core.Path.{subst₂, subst₃}
unfoldable pub use mathlib.Core.Logic.Iff.{trans as iff_trans}
unfoldable pub use mathlib.Core.Logic.{◌↔◌, ◌≢◌, ⊎_elim}
pub use mathlib.Core.Logic.{◌⊎◌, inl, inr}
unfoldable pub use mathlib.Core.Bool.{◌&&◌, ◌||◌, and-false, and-true, cond, not, true≢false}
pub use mathlib.Core.Bool.{Bool, false, or-false, or-true, true}
unfoldable pub use mathlib.Core.Option.{get_or as option_get_or}
pub use mathlib.Core.Option.{Option, none-ne-some as none-ne-some, some-injective as some_injective, some-ne-none as some-ne-none, none, some}
unfoldable pub use mathlib.Core.List.Permᴰ.{symm as perm_symm}
unfoldable pub use mathlib.Core.List.{◌++◌, map, map-append}
pub use mathlib.Core.List.Memᴰ.{append_cases as mem-append_cases}
pub use mathlib.Core.List.Memᴰ.{cases_cons as mem_cases-cons}
pub use mathlib.Core.List.Memᴰ.{eq_of_singleton as mem-eq_of_singleton}
pub use mathlib.Core.List.Memᴰ.{head as mem_head}
pub use mathlib.Core.List.{List, Memᴰ as Memᴰ}
pub use mathlib.Core.List.Memᴰ.{not-nil as mem_not-nil}
pub use mathlib.Core.List.Memᴰ.{tail as mem_tail}
pub use mathlib.Core.List.Permᴰ.{cons as perm_cons}
pub use mathlib.Core.List.Permᴰ.{nil as perm_nil}
pub use mathlib.Core.List.Permᴰ.{swap as perm_swap}
pub use mathlib.Core.List.Permᴰ.{trans as perm_trans}
pub use mathlib.Core.List.{Permᴰ as Permᴰ}
pub use mathlib.Core.List.Memᴰ.{append_left as mem-append_left}
pub use mathlib.Core.List.Memᴰ.{append_right as mem-append_right}
pub use mathlib.Core.List.Memᴰ.{cast as mem_cast}
pub use mathlib.Core.List.Memᴰ.{map as mem-map}
pub use mathlib.Core.List.Memᴰ.{of_map as mem_of-map}
pub use mathlib.Core.List.Permᴰ.{refl as perm_refl}
pub use mathlib.Core.List.{[], ◌∷◌, append_assoc, append-nil}
pub use mathlib.Core.List.{head-eq_of_cons-eq, map-id, nil≢cons, tail-eq_of_cons-eq}
unfoldable pub use lib.Dec.{T, eqb, leb, le→leb, ltb, lt→ltb}
pub use lib.Dec.{eqb_refl, eqb-suc-suc as eqb-suc-suc, eqb-suc-zero as eqb-suc-zero, eqb-zero-suc as eqb-zero-suc, eqb→eq, leb-suc-suc as leb-suc-suc, leb-suc-zero as leb-suc-zero, leb→le, lit<, lit≤, ltb→lt, nleb→lt, nltb→le}
pub use lib.Dec.{not_T}
unfoldable pub use lib.ListN.{drop, get_or, get_elem?, length, length-map, replicate, set, take}
pub use lib.ListN.{get_or-append as get_or-append, get_or-eq_default as get_or-eq_default, get_or-map as get_or-map, drop_of_length-le, get_or-replicate, length-append, length-drop}
pub use lib.ListN.{length-replicate, length-set, length-take, take-append-drop}
unfoldable pub use native.Mathlib.Decide.{dec_le, dec_lt, ℕ_discrete}
pub use lib.Seq.{append_snoc, drop-append-add, drop-append-le, drop-append_seam, drop_at, drop-cons, drop-drop, drop-length, drop-set-lt, ext_get_or}
pub use lib.Seq.{get_or-append-add, get_or-append_seam, get_or_at, get_or-drop, get_or-set_other, get_or-set_same, get_or-take, length-take-le, set-append_seam}
pub use lib.Seq.{set_at, set_out, set_split, take-add, take_all, take-append-le, take-append_seam, take_at, take-length, take-set-le, take-suc}
pub use lib.Seq.{take-suc-set, take-take}
pub use native.Mathlib.Nat.{add_assoc, add_comm, add-mul, add-sub_cancel, add-sub_cancel_left, add-suc, add-zero, div-add-mod', div-div-eq-div-mul}
pub use native.Mathlib.Nat.{div-le_self, div-lt_iff_lt-mul, div-one, eq-or-lt_of_le, le_antisymm, le-mul_of_pos_right, le_of_eq, le_of_lt}
pub use native.Mathlib.Nat.{le_of_suc-le-suc, le_refl, le_step, le_trans, lt_irrefl, lt_of_lt_of_le, lt-suc_self, lt_trans, mod-eq_of_lt, mod-lt}
pub use native.Mathlib.Nat.{mul_assoc, mul-le-mul, mul-le-mul_left, mul-le-mul_right, mul-one, mul-suc, mul-zero, ne_of_gt, ne_of_lt, not-le_of_lt}
pub use native.Mathlib.Nat.{not-suc-le-zero, one-le-pow, one-mul, pow-le-pow_left, pow-le-pow_right, pow-suc, pow-succ', pow-zero, sub_self, sub-zero}
pub use native.Mathlib.Nat.{suc-add, suc_inj, suc-mul, suc-ne-zero, suc-sub-suc, zero-add, zero-lt-suc, zero-mul}
pub use native.Mathlib.Numerals.{add-one, add-three, add-two, sub-one}
pub use native.Mathlib.Omega.{arith}
pub use borrow.Author.Tests.{eq-eqb, eqb-false, eqb-true, le-leb, le-ltb, leb-false, leb-true, lt-leb, lt-ltb, ltb-false, ltb-true, ne_eqb, not-false}
pub use borrow.Author.Tests.{not-true}
pub use borrow.Author.Rules.{rules}
