-- The order of nullness.
use Rattle.std.specs.Prelude.{◌≡◌, ℕ, Bool, true, false, if◌then◌else◌, IsTrue, ◌↔◌, ◌⊎◌, None, refl}
use Rattle.domains.specs.declared.nulls.Nullness.{Nullness}
use Rattle.domains.specs.declared.nulls.Nullness.TheVariants.{Bottom, Null, NotNull, Any}
use Rattle.std.proofs.Common.{sym, inl, inr}
use Rattle.lattice_core.specs.Laws.{IsUpper}
use Rattle.domains.specs.Datum.{Datum, Plain, Single, Object, is_zero, Within}

-- whether it allows what is the word 0, or is not
abbrev pub Allows : Nullness → Bool → Type 0
Allows Bottom zero = ⊥
Allows Null zero = zero ≡ true
Allows NotNull zero = zero ≡ false
Allows Any zero = Unit {0}

-- what a nullness holds of: nothing, the word 0, all else, or any
abbrev pub null_holds : Nullness → Datum → Type 0
null_holds x d = Allows x (is_zero d)

abbrev pub null_leq : Nullness → Nullness → Bool
null_leq Bottom y = true
null_leq Null Null = true
null_leq NotNull NotNull = true
null_leq x Any = true
null_leq x y = false

abbrev pub null_joined : Nullness → Nullness → Nullness
null_joined x y = if null_leq x y then y else (if null_leq y x then x else Any)

-- how far a nullness may still rise
abbrev pub null_rank : Nullness → ℕ
null_rank Bottom = 2
null_rank Null = 1
null_rank NotNull = 1
null_rank Any = 0

-- an order that is not there
no_order : {P : Type 0} → false ≡ true → P
no_order e = absurd (cc)

pub allows_more : (x y : Nullness) (z : Bool) → IsTrue (null_leq x y) → Allows x z → Allows y z
allows_more Bottom y z t h = absurd h
allows_more Null Bottom z t h = no_order t
allows_more Null Null z t h = h
allows_more Null NotNull z t h = no_order t
allows_more Null Any z t h = tt
allows_more NotNull Bottom z t h = no_order t
allows_more NotNull Null z t h = no_order t
allows_more NotNull NotNull z t h = h
allows_more NotNull Any z t h = tt
allows_more Any Bottom z t h = no_order t
allows_more Any Null z t h = no_order t
allows_more Any NotNull z t h = no_order t
allows_more Any Any z t h = tt

-- one nullness is at or below another where the other allows both answers that it allows
pub null_leq_from : (x y : Nullness) → (Allows x true → Allows y true) → (Allows x false → Allows y false) → IsTrue (null_leq x y)
null_leq_from Bottom y f g = refl
null_leq_from Null Bottom f g = absurd (f refl)
null_leq_from Null Null f g = refl
null_leq_from Null NotNull f g = no_order (sym (f refl))
null_leq_from Null Any f g = refl
null_leq_from NotNull Bottom f g = absurd (g refl)
null_leq_from NotNull Null f g = no_order (g refl)
null_leq_from NotNull NotNull f g = refl
null_leq_from NotNull Any f g = refl
null_leq_from Any Bottom f g = absurd (f tt)
null_leq_from Any Null f g = no_order (g tt)
null_leq_from Any NotNull f g = no_order (sym (f tt))
null_leq_from Any Any f g = refl

pub null_within : (x y : Nullness) → IsTrue (null_leq x y) ↔ Within null_holds x y
null_within x y = (λ t d. allows_more x y (is_zero d) t, λ f. null_leq_from x y (f (Plain (Single 0))) (f (Object None)))

pub null_upper : (x y : Nullness) → IsUpper (Within null_holds) x y (null_joined x y)
null_upper x y = by_order (null_leq x y) (null_leq y x) refl refl
  where
    by_order : (p q : Bool) → null_leq x y ≡ p → null_leq y x ≡ q → IsUpper (Within null_holds) x y (if p then y else (if q then x else Any))
    by_order true q e k = record { first = (null_within x y).0 e; second = λ n h. h }
    by_order false true e k = record { first = λ n h. h; second = (null_within y x).0 k }
    by_order false false e k = record { first = λ n h. tt; second = λ n h. tt }

-- what the join allows one of both allows
pub allows_either : (x y : Nullness) (z : Bool) → Allows (null_joined x y) z → Allows x z ⊎ Allows y z
allows_either Bottom y z h = inr h
allows_either Null Bottom z h = inl h
allows_either Null Null z h = inl h
allows_either Null NotNull true h = inl refl
allows_either Null NotNull false h = inr refl
allows_either Null Any z h = inr h
allows_either NotNull Bottom z h = inl h
allows_either NotNull Null true h = inr refl
allows_either NotNull Null false h = inl refl
allows_either NotNull NotNull z h = inl h
allows_either NotNull Any z h = inr h
allows_either Any Bottom z h = inl h
allows_either Any Null z h = inl h
allows_either Any NotNull z h = inl h
allows_either Any Any z h = inl h

pub allows_up : (x y : Nullness) (z : Bool) → Within null_holds x y → Allows x z → Allows y z
allows_up x y z f = allows_more x y z ((null_within x y).1 f)

pub null_join_least : (x y z : Nullness) → Within null_holds x z → Within null_holds y z → Within null_holds (null_joined x y) z
null_join_least x y z f g = (null_within _ z).0 (least x y ((null_within x z).1 f) ((null_within y z).1 g))
  where
    any : (z : Nullness) → IsTrue (null_leq Null z) → IsTrue (null_leq NotNull z) → IsTrue (null_leq Any z)
    any Bottom h k = h
    any Null h k = k
    any NotNull h k = h
    any Any h k = refl

    least : (x y : Nullness) → IsTrue (null_leq x z) → IsTrue (null_leq y z) → IsTrue (null_leq (null_joined x y) z)
    least Bottom y h k = k
    least Null Bottom h k = h
    least Null Null h k = h
    least Null NotNull h k = any z h k
    least Null Any h k = k
    least NotNull Bottom h k = h
    least NotNull Null h k = any z k h
    least NotNull NotNull h k = h
    least NotNull Any h k = k
    least Any Bottom h k = h
    least Any Null h k = h
    least Any NotNull h k = h
    least Any Any h k = k
