-- New numbers of strings that annotations name rise with the old ones.
use Rattle.std.proofs.Common.{◌≡◌, ◌<◌, ◌≤◌, ◌⊎◌, inl, inr, ℕ, zero, suc, true, false, List, [], ◌∷◌, length, refl, sym, ap, subst, ◌∙◌, arith, Some, ltb-true}
use Rattle.std.specs.Prelude.{nat_lt, slice_get, take}
use Rattle.std.specs.Option.{option_map}
use Rattle.std.specs.Ordering.{nat_cmp, ordering_reverse}
use Rattle.std.specs.Cmp.Lexicographic.{slice_cmp}
use Rattle.std.specs.declared.cmp.Ordering.{Ordering}
use Rattle.std.specs.declared.cmp.Ordering.TheVariants.{Less, Equal, Greater}
use Rattle.std.proofs.lemmas.Cmp.{nat_list_cmp_total}
use Rattle.lemmas.proofs.Lists.{get_there}
use Rattle.lemmas.proofs.Options.{some_same}
use Rattle.dex_pools.specs.declared.interner.Interner.{Interner}
use Rattle.dex_pools.specs.declared.used.Named.TheVariants as named
use Rattle.dex_pools.specs.Interned.{IsInterned}
use Rattle.dex_pools.specs.Finds.{Ascends}
use Rattle.dex_pools.specs.Order.{is_less, list_below}
use Rattle.dex_pools.specs.Numbering.{used_in, string_key}
use Rattle.program_model.specs.declared.program.Program.{Program}
use Rattle.program_model.specs.Texts.{has_string}
use Rattle.dex_defs.specs.Written.{new_string, written_by}
use Rattle.write_laws.specs.Used.{IsUsed, IsShort}
use Rattle.write_laws.specs.Orders.{OrdersIn}
use Rattle.write_laws.proofs.NamesOrdering.{AsMany, used_marked, orders_in}
use Rattle.write_laws.proofs.Ascending.{one_number}
use Rattle.write_laws.proofs.Carried.{carried}
use Rattle.written_file.specs.Rises.{NamesRise}
use Rattle.written_file.proofs.Places.{below_tells}

abbrev cmp : List ℕ → List ℕ → Ordering
cmp a b = slice_cmp nat_cmp a b

is_lower : (o : Ordering) → is_less o ≡ true → o ≡ Less
is_lower Less h = refl
is_lower Equal h = absurd cc
is_lower Greater h = absurd cc

first_lower : (x : List ℕ) (xs : List (List ℕ)) (k : ℕ) (y : List ℕ) → Ascends list_below (x ∷ xs) → slice_get xs k ≡ Some y → cmp x y ≡ Less
first_lower x [] k y h e = absurd cc
first_lower x (z ∷ zs) zero y h e = subst (λ t. cmp x t ≡ Less) (some_same z y e) (is_lower (cmp x z) h.0)
first_lower x (z ∷ zs) (suc k) y h e = nat_list_cmp_total.trans x z y (is_lower (cmp x z) h.0) (first_lower z zs k y h.1 e)

tail_ascends : (x : List ℕ) (xs : List (List ℕ)) → Ascends list_below (x ∷ xs) → Ascends list_below xs
tail_ascends x [] h = tt
tail_ascends x (y ∷ ys) h = h.1

pair_lower : (xs : List (List ℕ)) (j k : ℕ) (x y : List ℕ) → Ascends list_below xs → slice_get xs j ≡ Some x → slice_get xs k ≡ Some y → j < k → cmp x y ≡ Less
pair_lower [] j k x y h e f lt = absurd cc
pair_lower (z ∷ zs) zero zero x y h e f lt = absurd (omega (arith, lt))
pair_lower (z ∷ zs) zero (suc k) x y h e f lt = subst (λ t. cmp t y ≡ Less) (some_same z x e) (first_lower z zs k y h f)
pair_lower (z ∷ zs) (suc j) zero x y h e f lt = absurd (omega (arith, lt))
pair_lower (z ∷ zs) (suc j) (suc k) x y h e f lt = pair_lower zs j k x y (tail_ascends z zs h) e f (omega (arith, lt))

both_ways : (x y : List ℕ) → cmp x y ≡ Less → cmp y x ≡ Less → ⊥
both_ways x y a b = let s : Less ≡ Greater = sym a ∙ (nat_list_cmp_total.antisymm x y ∙ ap ordering_reverse b) in absurd cc

-- what stands early in a list stands in its front
taken : (k : ℕ) (xs : List (List ℕ)) (n : ℕ) (t : List ℕ) → n < k → slice_get xs n ≡ Some t → slice_get (take k xs) n ≡ Some t
taken zero xs n t lt e = absurd (omega (arith, lt))
taken (suc k) [] n t lt e = e
taken (suc k) (x ∷ xs) zero t lt e = e
taken (suc k) (x ∷ xs) (suc n) t lt e = taken k xs n t (omega (arith, lt)) e

-- a used string of those that ascend
abbrev pub UsedLow : (p : Program) → NamesRise p → ℕ → Type 0
UsedLow p old n = IsUsed (used_in p) (named.Text n) × (n < old.strings)

module _ (p : Program) (i : Interner) (few : IsShort p) (h : IsInterned p i) (old : NamesRise p) (new : Ascends list_below (written_by i p).strings) where
  pub strings_rise : (a b : ℕ) → UsedLow p old a → UsedLow p old b → has_string p a ≡ true → has_string p b ≡ true → nat_lt a b ≡ true → nat_lt (new_string i.numbers a) (new_string i.numbers b) ≡ true
  strings_rise a b ua ub ha hb lt = by_order (below_tells (new_string i.numbers a) (new_string i.numbers b))
    where
      many : AsMany p (used_in p)
      many = used_marked p

      orders : OrdersIn p i
      orders = orders_in p i h

      kept : (n : ℕ) (t : List ℕ) → IsUsed (used_in p) (named.Text n) → slice_get p.strings n ≡ Some t → slice_get (written_by i p).strings (new_string i.numbers n) ≡ Some t
      kept n t u e = carried (λ text. text) p.strings (used_in p).strings (string_key p.strings) i.order.strings.items i.numbers.strings.items h.strings orders.strings many.strings few.strings n u ∙ ap (option_map (λ x. x)) e

      below_a : a < length p.strings
      below_a = ltb-true a (length p.strings) ha

      below_b : b < length p.strings
      below_b = ltb-true b (length p.strings) hb

      low : a < b
      low = ltb-true a b lt

      by_order : ((nat_lt (new_string i.numbers a) (new_string i.numbers b) ≡ true) × (new_string i.numbers a < new_string i.numbers b)) ⊎ ((nat_lt (new_string i.numbers a) (new_string i.numbers b) ≡ false) × (new_string i.numbers b ≤ new_string i.numbers a)) → nat_lt (new_string i.numbers a) (new_string i.numbers b) ≡ true
      by_order (inl y) = y.0
      by_order (inr z) = by_more (below_tells (new_string i.numbers b) (new_string i.numbers a))
        where
          ta : (t : List ℕ) × (slice_get p.strings a ≡ Some t)
          ta = get_there p.strings a below_a

          tb : (t : List ℕ) × (slice_get p.strings b ≡ Some t)
          tb = get_there p.strings b below_b

          by_more : ((nat_lt (new_string i.numbers b) (new_string i.numbers a) ≡ true) × (new_string i.numbers b < new_string i.numbers a)) ⊎ ((nat_lt (new_string i.numbers b) (new_string i.numbers a) ≡ false) × (new_string i.numbers a ≤ new_string i.numbers b)) → nat_lt (new_string i.numbers a) (new_string i.numbers b) ≡ true
          by_more (inl y) = absurd (both_ways ta.0 tb.0 (pair_lower (take old.strings p.strings) a b ta.0 tb.0 old.ascend (taken old.strings p.strings a ta.0 ua.1 ta.1) (taken old.strings p.strings b tb.0 ub.1 tb.1) low) (pair_lower (written_by i p).strings (new_string i.numbers b) (new_string i.numbers a) tb.0 ta.0 new (kept b tb.0 ub.0 tb.1) (kept a ta.0 ua.0 ta.1) y.1))
          by_more (inr w) =
              let same : a ≡ b = one_number (used_in p).strings (string_key p.strings) (length p.strings) i.order.strings.items i.numbers.strings.items h.strings many.strings few.strings a b (below_a, ua.0) (below_b, ub.0) (omega (arith, z.1, w.1)) in
              absurd (omega (arith, same, low))
