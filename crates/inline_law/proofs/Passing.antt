-- A typed call passes both halves of each wide, one behind the other.
use Rattle.std.proofs.Common.{◌≡◌, ℕ, ◌+◌, Bool, true, false, List, [], ◌∷◌, ◌++◌, length, refl, sym, subst, arith}
use Rattle.std.specs.Prelude.{◌&&◌, drop, nat_eq, if◌then◌else◌}
use Rattle.std.specs.List.{list_all}
use Rattle.std.proofs.lemmas.Bool.{eqb-true}
use Rattle.lemmas.proofs.Bools.{and_right}
use Rattle.dalvik_defs.specs.Names.{Text, is_wide}
use Rattle.dalvik_defs.specs.declared.program.NamedProgram.{NamedProgram}
use Rattle.dalvik_defs.specs.declared.program.NamedClass.{NamedClass}
use Rattle.pass_defs.specs.Kinds.{Kind}
use Rattle.pass_defs.specs.Demands.{Demand, Pair, Fits, meets, passed, passed_wide}
use Rattle.pass_defs.specs.Typed.{words_of}
use Rattle.inline_law.specs.Inlining.{Passes, PassesNone, PassesOne, PassesTwo}
use Rattle.program_laws.proofs.ChangedLists.{and_left}

module _ (p : NamedProgram) (c : NamedClass) (ks : List Kind) where
  abbrev all_met : List (ℕ × Demand) → Bool
  all_met = list_all (λ d. meets p c ks d.0 d.1)

  pub passes_typed : (ts : List Text) (rs : List ℕ) → all_met (passed ts rs) ≡ true → length rs ≡ words_of ts → Passes ts rs
  passes_typed [] [] e l = PassesNone
  passes_typed [] (r ∷ rs) e l = let f : ⊥ = omega (arith, l) in absurd f
  passes_typed (t ∷ ts) [] e l = by (is_wide t) l
    where
      by : (w : Bool) → 0 ≡ (if w then 2 else 1) + words_of ts → Passes (t ∷ ts) []
      by true l = let f : ⊥ = omega (arith, l) in absurd f
      by false l = let f : ⊥ = omega (arith, l) in absurd f
  passes_typed (t ∷ ts) (r ∷ rs) e l = by (is_wide t) refl e l rs (λ rs. passes_typed ts rs)
    where
      one : (w : Bool) (rs : List ℕ) → w ≡ true → all_met (passed_wide r rs ++ passed ts (drop 1 rs)) ≡ true → length (r ∷ rs) ≡ 2 + words_of ts → ((rs : List ℕ) → all_met (passed ts rs) ≡ true → length rs ≡ words_of ts → Passes ts rs)
          → is_wide t ≡ true → Passes (t ∷ ts) (r ∷ rs)
      one w [] i e l more j = let f : ⊥ = omega (arith, l) in absurd f
      one w (s ∷ rs) i e l more j =
          let a = and_right (meets p c ks r Pair) (nat_eq s (r + 1) && all_met (passed ts rs)) e in
          let q : s ≡ r + 1 = eqb-true s (r + 1) (and_left (nat_eq s (r + 1)) (all_met (passed ts rs)) a) in
          subst (λ z. Passes (t ∷ ts) (r ∷ z ∷ rs)) (sym q) (PassesTwo t ts r rs j (more rs (and_right (nat_eq s (r + 1)) (all_met (passed ts rs)) a) (omega (arith, l))))

      by : (w : Bool) → is_wide t ≡ w → all_met (elim w as (λ w. List (ℕ × Demand)) [ true ↦ passed_wide r rs ++ passed ts (drop 1 rs) | false ↦ (r, Fits t) ∷ passed ts rs ]) ≡ true
          → length (r ∷ rs) ≡ (if w then 2 else 1) + words_of ts → (rs' : List ℕ) → ((rs : List ℕ) → all_met (passed ts rs) ≡ true → length rs ≡ words_of ts → Passes ts rs) → Passes (t ∷ ts) (r ∷ rs)
      by true j e l rs' more = one true rs refl e l more j
      by false j e l rs' more = PassesOne t ts r rs j (more rs (and_right (meets p c ks r (Fits t)) (all_met (passed ts rs)) e) (omega (arith, l)))
