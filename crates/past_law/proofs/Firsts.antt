-- What the first values of a class take from the items that are left.
use Rattle.std.proofs.Common.{◌≡◌, ◌≤◌, ◌<◌, ℕ, zero, suc, eqb, false, List, [], ◌∷◌, length, refl, sym, ap, ◌∙◌, arith}
use Rattle.std.specs.Prelude.{slice_index}
use Rattle.dex_base.specs.Leb.{IsUlebAt, uleb_at}
use Rattle.program_model.specs.declared.limits.Counted.TheVariants.{Items}
use Rattle.program_model.specs.declared.program.Field.{Field}
use Rattle.program_model.specs.declared.program.Program.{Program}
use Rattle.dex_pools.specs.declared.fault.PoolFault.TheVariants as pool
use Rattle.dex_pools.specs.Value.{whole_value_at}
use Rattle.dex_defs.specs.Limits.{IsItem}
use Rattle.dex_defs.specs.Limits as limits
use Rattle.dex_defs.specs.Places.{Repeat, HasArray, IsItemOf}
use Rattle.dex_defs.specs.Places as places
use Rattle.dex_read.specs.declared.fault.DexFault.TheVariants as dex
use Rattle.dex_read.specs.Classes.{begun_at}
use Rattle.dex_read.specs.FirstValues.{with_first, give_first, firsts_at}
use Rattle.dex_read.specs.Steps.{change_at}
use Rattle.dex_read.specs.Tables.{sizes_in}
use Rattle.file_laws.proofs.Words.{finds_number}
use Rattle.spelled_law.proofs.Firsts.{founds_give}
use Rattle.refused_law.proofs.ValueFaults.{ends_of, repeat_more}
use Rattle.past_law.proofs.Names.{sort_of, owner_of, Under, under_long, same_end}
use Rattle.past_law.proofs.Plain.{plain_dex_base}
use Rattle.past_law.proofs.Taking.{limit_of_dex, Takes, takes_none, plain_next, takes_next, takes_then, takes_unless, takes_either, takes_raised, takes_spend, OneOf, takes_steps}
use Rattle.past_law.proofs.Told.{numbered}
use Rattle.past_law.proofs.Values.{takes_value}

-- what is counted in the first values of a class
abbrev pub InFirsts : ℕ → List ℕ → Type 0
InFirsts class w = (sort_of w ≡ 4) × (owner_of w ≡ class ∷ [])

module _ (bytes : List ℕ) (p : Program) (class at : ℕ) (has : HasArray bytes class at) where
  abbrev entry : ℕ → List ℕ
  entry i = 4 ∷ i ∷ 0 ∷ class ∷ []

  abbrev value : ℕ → List ℕ
  value i = 0 ∷ i ∷ class ∷ []

  abbrev Entries : List ℕ → Type 0
  Entries w = (i : ℕ) × (w ≡ entry i)

  abbrev InOne : ℕ → List ℕ → Type 0
  InOne i w = Under (value i) 3 4 (class ∷ []) w

  values_apart : (i j : ℕ) (w : List ℕ) → InOne i w → InOne j w → i ≡ j
  values_apart i j w a b = ap (λ (w : List ℕ). slice_index w 1) (same_end a.front b.front (value i) (value j) (sym a.is ∙ b.is) refl)

  entries_apart : (from total : ℕ) (w : List ℕ) → Entries w → OneOf InOne from total w → ⊥
  entries_apart from total w e o =
      let long = under_long (value o.place) 3 4 (class ∷ []) w o.is in
      let all : length w ≡ 4 = ap (λ (l : List ℕ). length l) e.1 in
      let six : 6 ≤ length w = long in omega (arith, six, all)

  takes_give : (statics count begin : ℕ) → IsUlebAt bytes at (count, begin) → (i : ℕ) (s : List Field × (ℕ × ℕ)) → i < count → Repeat (places.Ends bytes) i begin s.1.0
      → Takes limit_of_dex Items (IsItem bytes) (InOne i) s.1.1 (λ (r : List Field × (ℕ × ℕ)). r.1.1) (give_first bytes p statics i s)
  unfolding give_first whole_value_at
  takes_give statics count begin is_count i s less good = let item : IsItemOf bytes at i s.1.0 = places.Item count begin is_count less good in
      takes_then (takes_raised (takes_value bytes (sizes_in p) 64 (value i) s.1 (limits.First class at i s.1.0 has item))) (λ v _.
      takes_unless (dex.Pool (pool.BadValue s.1.0)) refl (λ _. takes_none v.1.1 _ (change_at (with_first v.0) i s.0, v.1) (omega arith)))

  pub takes_firsts : (statics : ℕ) (fields : List Field) (left : ℕ) → Takes limit_of_dex Items (IsItem bytes) (InFirsts class) left (λ (r : List Field × ℕ). r.1) (firsts_at bytes p at statics fields left)
  unfolding firsts_at
  takes_firsts statics fields left = plain_next (plain_dex_base (uleb_at bytes at)) (λ count h. let is_count = (finds_number bytes at).found count h in
      takes_next (takes_raised (takes_spend Items count.0 left (numbered {A = Entries} entry count.0 (λ i j e. ap (λ (w : List ℕ). slice_index w 1) e)
      (λ i less. limits.OfFirsts class at count.0 count.1 i has is_count less) (λ i less. (i, refl))))) (λ behind _.
      takes_then (takes_steps InOne values_apart (give_first bytes p statics) (λ (s : List Field × (ℕ × ℕ)). s.1.1) (λ i s. Repeat (places.Ends bytes) i count.1 s.1.0)
      (λ i s t good g. let is = (founds_give bytes p statics i s).found t g in repeat_more (places.Ends bytes) i count.1 s.1.0 t.1.0 good (ends_of bytes (sizes_in p) 64 s.1.0 (is.v, t.1.0) is.is)) count.0
      (takes_give statics count.0 count.1 is_count) 0 count.0 (fields, (count.1, behind)) (omega arith) refl) (λ given _. takes_none given.1.1 _ (given.0, given.1.1) (omega arith)))
      (entries_apart 0 count.0) (λ w e. (ap sort_of e.1, ap owner_of e.1)) (λ w o. (o.is.has_sort, o.is.has_owner)))

positive_of : (n : ℕ) → eqb n 0 ≡ false → 0 < n
positive_of zero e = absurd cc
positive_of (suc n) e = omega arith

pub takes_begun : (bytes : List ℕ) (p : Program) (class offset statics : ℕ) (fields : List Field) (left : ℕ) → (0 < offset → HasArray bytes class offset)
    → Takes limit_of_dex Items (IsItem bytes) (InFirsts class) left (λ (r : List Field × ℕ). r.1) (begun_at bytes p offset statics fields left)
unfolding begun_at
takes_begun bytes p class offset statics fields left has = takes_either (λ e. takes_none left _ (fields, left) (omega arith)) (λ e. takes_firsts bytes p class offset (has (positive_of offset e)) statics fields left)
