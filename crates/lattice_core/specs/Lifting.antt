-- The order of lifted values.
use Rattle.std.specs.Prelude.{ℕ, suc}
use Rattle.lattice_core.specs.declared.lifting.Lifted.{Lifted}
use Rattle.lattice_core.specs.declared.lifting.Lifted.TheVariants.{Unreached, Reached}

-- what is unreached is below all else
abbrev pub lifted_below : {L : Type 0} → (L → L → Type 0) → Lifted L → Lifted L → Type 0
lifted_below below Unreached y = Unit {0}
lifted_below below (Reached a) Unreached = ⊥
lifted_below below (Reached a) (Reached b) = below a b

abbrev pub lifted_joined : {L : Type 0} → (L → L → L) → Lifted L → Lifted L → Lifted L
lifted_joined joined Unreached y = y
lifted_joined joined (Reached a) Unreached = Reached a
lifted_joined joined (Reached a) (Reached b) = Reached (joined a b)

-- what is reached for the first time is widened from the least value, so that its rank is no more than the rank of that
abbrev pub lifted_widened : {L : Type 0} → L → (L → L → L) → Lifted L → Lifted L → Lifted L
lifted_widened least widened Unreached Unreached = Unreached
lifted_widened least widened Unreached (Reached b) = Reached (widened least b)
lifted_widened least widened (Reached a) Unreached = Reached a
lifted_widened least widened (Reached a) (Reached b) = Reached (widened a b)

abbrev pub lifted_holds : {L M : Type 0} → (L → M → Type 0) → Lifted L → M → Type 0
lifted_holds holds Unreached m = ⊥
lifted_holds holds (Reached a) m = holds a m

abbrev pub lifted_rank : {L : Type 0} → L → (L → ℕ) → Lifted L → ℕ
lifted_rank least rank Unreached = suc (rank least)
lifted_rank least rank (Reached a) = rank a

module _ {L : Type 0} (below : L → L → Type 0) where
  pub lifted_reflexive : ((a : L) → below a a) → (x : Lifted L) → lifted_below below x x
  lifted_reflexive same Unreached = tt
  lifted_reflexive same (Reached a) = same a

  pub lifted_transitive : ((a b c : L) → below a b → below b c → below a c) → (x y z : Lifted L) → lifted_below below x y → lifted_below below y z → lifted_below below x z
  lifted_transitive trans Unreached y z h k = tt
  lifted_transitive trans (Reached a) Unreached z h k = absurd h
  lifted_transitive trans (Reached a) (Reached b) Unreached h k = absurd k
  lifted_transitive trans (Reached a) (Reached b) (Reached c) h k = trans a b c h k

  pub lifted_grows : {M : Type 0} (holds : L → M → Type 0) → ((a b : L) (m : M) → below a b → holds a m → holds b m) → (x y : Lifted L) (m : M) → lifted_below below x y → lifted_holds holds x m → lifted_holds holds y m
  lifted_grows holds grows Unreached y m h k = absurd k
  lifted_grows holds grows (Reached a) Unreached m h k = absurd h
  lifted_grows holds grows (Reached a) (Reached b) m h k = grows a b m h k

  pub lifted_join_least : (joined : L → L → L) → ((a b c : L) → below a c → below b c → below (joined a b) c) → (x y z : Lifted L) → lifted_below below x z → lifted_below below y z → lifted_below below (lifted_joined joined x y) z
  lifted_join_least joined least Unreached y z h k = k
  lifted_join_least joined least (Reached a) Unreached z h k = h
  lifted_join_least joined least (Reached a) (Reached b) Unreached h k = absurd h
  lifted_join_least joined least (Reached a) (Reached b) (Reached c) h k = least a b c h k
