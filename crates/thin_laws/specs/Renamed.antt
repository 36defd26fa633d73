-- Kinds in which the positions where objects were made have other numbers.
use Rattle.std.specs.Prelude.{◌≡◌, ℕ, nat_eq, map}
use Rattle.pass_defs.specs.Kinds.{Kind, Fresh}
use Rattle.pass_defs.specs.Registers.{Kinds}

-- a renaming of positions that tells apart what it told apart
abbrev pub KeepsApart : (ℕ → ℕ) → Type 0
KeepsApart s = (n m : ℕ) → nat_eq (s n) (s m) ≡ nat_eq n m

abbrev pub renamed : (ℕ → ℕ) → Kind → Kind
renamed s (Fresh t n) = Fresh t (s n)
renamed s k = k

abbrev pub kinds_renamed : (ℕ → ℕ) → Kinds → Kinds
kinds_renamed s a = record { registers = map (renamed s) a.registers; result = renamed s a.result; caught = renamed s a.caught; receiver = renamed s a.receiver }
