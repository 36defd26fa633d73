-- The order of flat values.
use Rattle.std.specs.Prelude.{◌≡◌, ℕ, Bool, true, false, if◌then◌else◌, refl}
use Rattle.std.specs.Cmp.{IsEquivalence}
use Rattle.std.proofs.Common.{sym, ◌∙◌}
use Rattle.lattice_core.specs.declared.flat_values.Flat.{Flat}
use Rattle.lattice_core.specs.declared.flat_values.Flat.TheVariants.{Bottom, Known, Any}

abbrev pub flat_below : {T : Type 0} → (T → T → Bool) → Flat T → Flat T → Type 0
flat_below eq Bottom y = Unit {0}
flat_below eq (Known a) Any = Unit {0}
flat_below eq (Known a) (Known b) = eq a b ≡ true
flat_below eq (Known a) Bottom = ⊥
flat_below eq Any Any = Unit {0}
flat_below eq Any (Known b) = ⊥
flat_below eq Any Bottom = ⊥

abbrev pub flat_joined : {T : Type 0} → (T → T → Bool) → Flat T → Flat T → Flat T
flat_joined eq Bottom y = y
flat_joined eq (Known a) Bottom = Known a
flat_joined eq (Known a) (Known b) = if eq a b then Known a else Any
flat_joined eq (Known a) Any = Any
flat_joined eq Any y = Any

abbrev pub flat_holds : {T : Type 0} → (T → T → Bool) → Flat T → T → Type 0
flat_holds eq Bottom t = ⊥
flat_holds eq (Known a) t = eq a t ≡ true
flat_holds eq Any t = Unit {0}

module _ {T : Type 0} {eq : T → T → Bool} (laws : IsEquivalence eq) where
  pub flat_reflexive : (x : Flat T) → flat_below eq x x
  flat_reflexive Bottom = tt
  flat_reflexive (Known a) = laws.refl a
  flat_reflexive Any = tt

  pub flat_transitive : (x y z : Flat T) → flat_below eq x y → flat_below eq y z → flat_below eq x z
  flat_transitive Bottom y z h k = tt
  flat_transitive (Known a) Bottom z h k = absurd h
  flat_transitive (Known a) (Known b) Bottom h k = absurd k
  flat_transitive (Known a) (Known b) (Known c) h k = laws.congr a b c h ∙ k
  flat_transitive (Known a) (Known b) Any h k = tt
  flat_transitive (Known a) Any Bottom h k = absurd k
  flat_transitive (Known a) Any (Known c) h k = absurd k
  flat_transitive (Known a) Any Any h k = tt
  flat_transitive Any Bottom z h k = absurd h
  flat_transitive Any (Known b) z h k = absurd h
  flat_transitive Any Any z h k = k

  pub flat_grows : (x y : Flat T) (t : T) → flat_below eq x y → flat_holds eq x t → flat_holds eq y t
  flat_grows Bottom y t h k = absurd k
  flat_grows (Known a) Bottom t h k = absurd h
  flat_grows (Known a) (Known b) t h k = laws.congr b a t (laws.symm b a ∙ h) ∙ k
  flat_grows (Known a) Any t h k = tt
  flat_grows Any Bottom t h k = absurd h
  flat_grows Any (Known b) t h k = absurd h
  flat_grows Any Any t h k = tt

  pub flat_join_least : (x y z : Flat T) → flat_below eq x z → flat_below eq y z → flat_below eq (flat_joined eq x y) z
  flat_join_least Bottom y z h k = k
  flat_join_least (Known a) Bottom z h k = h
  flat_join_least (Known a) (Known b) Bottom h k = absurd h
  flat_join_least (Known a) (Known b) (Known c) h k = known_least (eq a b) refl
    where
      known_least : (e : Bool) → eq a b ≡ e → flat_below eq (if e then Known a else Any) (Known c)
      known_least true e = h
      known_least false e = let t : eq a b ≡ true = laws.congr a c b h ∙ (laws.symm c b ∙ k) in let f : true ≡ false = sym t ∙ e in absurd (cc)
  flat_join_least (Known a) (Known b) Any h k = any_over (if eq a b then Known a else Any)
    where
      any_over : (x : Flat T) → flat_below eq x Any
      any_over Bottom = tt
      any_over (Known a) = tt
      any_over Any = tt
  flat_join_least (Known a) Any z h k = k
  flat_join_least Any y z h k = h

abbrev pub flat_rank : {T : Type 0} → Flat T → ℕ
flat_rank Bottom = 2
flat_rank (Known a) = 1
flat_rank Any = 0
