-- Where the walk upwards from each type ends, no type stands above itself.
use Rattle.std.proofs.Common.{◌≡◌, ℕ, zero, suc, ◌<◌, ◌≤◌, Bool, true, false, [], length, refl, arith, subst}
use Rattle.std.specs.List.{list_any}
use Rattle.dalvik_defs.specs.Names.{Text, text_eq}
use Rattle.dalvik_defs.specs.Under.{defines, own_above, walks}
use Rattle.dalvik_defs.specs.declared.program.NamedProgram.{NamedProgram}
use Rattle.dalvik_defs.proofs.Calm.{text_sound}
use Rattle.removal_law.specs.Left.{In}
use Rattle.removal_law.specs.Reach.{ends, IsRegular, IsAcyclic}
use Rattle.removal_law.proofs.Declared.{not_false}
use Rattle.removal_law.proofs.Levels.{undefined_above}
use Rattle.removal_law.proofs.Lists.{all_in}
use Rattle.removal_law.proofs.Outward.{any_where}
use Rattle.removal_law.proofs.Walks.{choice}

module _ (p : NamedProgram) where
  -- nothing stands above a type from which no step leads
  none_above : (t u : Text) → ends p 0 t ≡ true → In u (own_above p t) → ⊥
  none_above t u e i = nowhere (subst (λ us. In u us) (undefined_above p t (not_false (defines p t) e)) i)
    where
      nowhere : In u [] → ⊥
      nowhere j = elim j [ ]

  -- the walk upwards from a type ends within no more steps than so many
  record Ends (n : ℕ) (t : Text) : Type 0 where
    pub steps : ℕ
    pub few : steps ≤ n
    pub ends_there : ends p steps t ≡ true

  here_too : (n : ℕ) (u t : Text) → ends p n u ≡ true → text_eq u t ≡ true → Ends n t
  here_too n u t e i = record { steps = n; few = omega arith; ends_there = subst (λ x. ends p n x ≡ true) (text_sound u t i) e }

  one_less : (n : ℕ) (u t v : Text) → ends p n u ≡ true → In v (own_above p u) → ((m : ℕ) → ends p m v ≡ true → Ends m t) → Ends n t
  one_less zero u t v e i more = absurd (none_above u v e i)
  one_less (suc n) u t v e i more = let r = more n (all_in (ends p n) (own_above p u) e v i) in let few = r.few in record { steps = r.steps; few = omega (arith, few); ends_there = r.ends_there }

  -- what is met on a walk upwards ends too
  met : (k n : ℕ) (u t : Text) → ends p n u ≡ true → walks (own_above p) k u t ≡ true → Ends n t
  met zero n u t e w = here_too n u t e w
  met (suc k) n u t e w = by (text_eq u t) refl w (λ v m h w. met k m v t h w)
    where
      by : (b : Bool) → text_eq u t ≡ b → choice b (list_any (λ x. walks (own_above p) k x t) (own_above p u)) ≡ true
          → ((v : Text) (m : ℕ) → ends p m v ≡ true → walks (own_above p) k v t ≡ true → Ends m t) → Ends n t
      by true i w more = here_too n u t e i
      by false i w more = let r = any_where (λ x. walks (own_above p) k x t) (own_above p u) w in one_less n u t r.0 e r.1.0 (λ m h. more r.0 m h r.1.1)

  no_circle : (bound n : ℕ) (t u : Text) → n < bound → ends p n t ≡ true → In u (own_above p t) → (k : ℕ) → walks (own_above p) k u t ≡ true → ⊥
  no_circle zero n t u lt e i k w = absurd (omega (arith, lt))
  no_circle (suc bound) zero t u lt e i k w = none_above t u e i
  no_circle (suc bound) (suc n) t u lt e i k w =
      let r = met k n u t (all_in (ends p n) (own_above p t) e u i) w in
      let few = r.few in
      no_circle bound r.steps t u (omega (arith, lt, few)) r.ends_there i k w

  pub grounded_acyclic : IsRegular p → IsAcyclic p
  grounded_acyclic r t u i w = let g = r.grounded t in no_circle (suc g.0) g.0 t u (omega arith) g.1 i (length p.classes) w
