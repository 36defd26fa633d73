-- The fields of an instruction are those of its own units.
use Rattle.std.proofs.Common.{◌≡◌, ◌≤◌, ◌⊎◌, inl, inr, ℕ, List, [], ◌∷◌, length, take, Some, refl, sym, subst, arith}
use Rattle.insn_set.specs.declared.format.Format.{Format}
use Rattle.insn_set.specs.Formats.{format_units}
use Rattle.code_read.specs.declared.fields.Fields.{Fields}
use Rattle.code_read.specs.Fields.{of_units}

-- the same fields at the front of more units
pub record FrontFields (n : ℕ) (format : Format) (units : List ℕ) : Type 0 where
  pub fields : Fields
  pub own : of_units n format (take n units) ≡ Some fields
  pub front : of_units n format units ≡ Some fields

one : (format : Format) (units : List ℕ) → 1 ≤ length units → FrontFields 1 format units
one format [] h = absurd (omega (arith, h))
one format (u ∷ []) h = record { fields = _; own = refl; front = refl }
one format (u ∷ v ∷ []) h = record { fields = _; own = refl; front = refl }
one format (u ∷ v ∷ w ∷ []) h = record { fields = _; own = refl; front = refl }
one format (u ∷ v ∷ w ∷ x ∷ []) h = record { fields = _; own = refl; front = refl }
one format (u ∷ v ∷ w ∷ x ∷ y ∷ us) h = record { fields = _; own = refl; front = refl }

two : (format : Format) (units : List ℕ) → 2 ≤ length units → FrontFields 2 format units
two format [] h = absurd (omega (arith, h))
two format (u ∷ []) h = absurd (omega (arith, h))
two format (u ∷ v ∷ []) h = record { fields = _; own = refl; front = refl }
two format (u ∷ v ∷ w ∷ []) h = record { fields = _; own = refl; front = refl }
two format (u ∷ v ∷ w ∷ x ∷ []) h = record { fields = _; own = refl; front = refl }
two format (u ∷ v ∷ w ∷ x ∷ y ∷ us) h = record { fields = _; own = refl; front = refl }

three : (format : Format) (units : List ℕ) → 3 ≤ length units → FrontFields 3 format units
three format [] h = absurd (omega (arith, h))
three format (u ∷ []) h = absurd (omega (arith, h))
three format (u ∷ v ∷ []) h = absurd (omega (arith, h))
three format (u ∷ v ∷ w ∷ []) h = record { fields = _; own = refl; front = refl }
three format (u ∷ v ∷ w ∷ x ∷ []) h = record { fields = _; own = refl; front = refl }
three format (u ∷ v ∷ w ∷ x ∷ y ∷ us) h = record { fields = _; own = refl; front = refl }

five : (format : Format) (units : List ℕ) → 5 ≤ length units → FrontFields 5 format units
five format [] h = absurd (omega (arith, h))
five format (u ∷ []) h = absurd (omega (arith, h))
five format (u ∷ v ∷ []) h = absurd (omega (arith, h))
five format (u ∷ v ∷ w ∷ []) h = absurd (omega (arith, h))
five format (u ∷ v ∷ w ∷ x ∷ []) h = absurd (omega (arith, h))
five format (u ∷ v ∷ w ∷ x ∷ y ∷ us) h = record { fields = _; own = refl; front = refl }

abbrev IsCount : ℕ → Type 0
IsCount n = (n ≡ 1) ⊎ ((n ≡ 2) ⊎ ((n ≡ 3) ⊎ (n ≡ 5)))

by_count : (n : ℕ) → IsCount n → (format : Format) (units : List ℕ) → n ≤ length units → FrontFields n format units
by_count n c format units h = elim c [
  | inl e ↦ subst (λ k. FrontFields k format units) (sym e) (one format units (omega (arith, h, e)))
  | inr c ↦ elim c [
    | inl e ↦ subst (λ k. FrontFields k format units) (sym e) (two format units (omega (arith, h, e)))
    | inr c ↦ elim c [
      | inl e ↦ subst (λ k. FrontFields k format units) (sym e) (three format units (omega (arith, h, e)))
      | inr e ↦ subst (λ k. FrontFields k format units) (sym e) (five format units (omega (arith, h, e)))
    ]
  ]
]

units_counted : (format : Format) → IsCount (format_units format)
units_counted format = grind arith

pub front_fields : (format : Format) (units : List ℕ) → format_units format ≤ length units → FrontFields (format_units format) format units
front_fields format units h = by_count (format_units format) (units_counted format) format units h
