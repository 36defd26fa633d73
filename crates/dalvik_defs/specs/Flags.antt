-- Access flags (Dalvik executable format, "access_flags Definitions"), and what they make of a method.
use Rattle.std.specs.Prelude.{ℕ, ◌/◌, ◌%◌, Bool, false, ◌&&◌, not, [], ◌∷◌, nat_eq}
use Rattle.dalvik_defs.specs.Names.{Text}

abbrev pub has_bit : ℕ → ℕ → Bool
has_bit bit flags = nat_eq (flags / bit % 2) 1

abbrev pub is_private : ℕ → Bool
is_private flags = has_bit 2 flags

abbrev pub is_static : ℕ → Bool
is_static flags = has_bit 8 flags

abbrev pub is_native : ℕ → Bool
is_native flags = has_bit 256 flags

abbrev pub is_interface : ℕ → Bool
is_interface flags = has_bit 512 flags

abbrev pub is_abstract : ℕ → Bool
is_abstract flags = has_bit 1024 flags

-- constructors and class initialisers
abbrev pub is_special : Text → Bool
is_special [] = false
is_special (u ∷ us) = nat_eq u 60

-- what a virtual call may find: neither static, private, nor special
abbrev pub is_virtual : ℕ → Text → Bool
is_virtual flags name = not (is_static flags) && not (is_private flags) && not (is_special name)
