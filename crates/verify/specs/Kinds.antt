-- The kinds by numbers (this project's profile).
use Rattle.std.specs.Prelude.{ℕ, Bool, true, false, ◌&&◌, nat_eq, nat_lt, Option, Some, None, if◌then◌else◌}
use Rattle.verify.specs.declared.kinds.Kind.{Kind}
use Rattle.verify.specs.declared.kinds.Kind.TheVariants.{Undefined, Word, Zero, WideLow, WideHigh, Fresh, FreshThis, Null, Program, Array, Reference}

abbrev pub same_number : Option ℕ → Option ℕ → Bool
same_number None None = true
same_number (Some m) (Some n) = nat_eq m n
same_number a b = false

abbrev pub same_kind : Kind → Kind → Bool
same_kind Undefined Undefined = true
same_kind Word Word = true
same_kind Zero Zero = true
same_kind WideLow WideLow = true
same_kind WideHigh WideHigh = true
same_kind (Fresh c p) (Fresh d q) = nat_eq c d && nat_eq p q
same_kind FreshThis FreshThis = true
same_kind Null Null = true
same_kind (Program c) (Program d) = nat_eq c d
same_kind (Array m i) (Array n j) = nat_eq m n && same_number i j
same_kind Reference Reference = true
same_kind a b = false

abbrev pub is_number : Kind → Bool
is_number Zero = true
is_number Word = true
is_number k = false

-- null, or an object that a constructor was called on; an array has at least one dimension
abbrev pub is_initialised : Kind → Bool
is_initialised Zero = true
is_initialised Null = true
is_initialised (Program c) = true
is_initialised (Array n i) = nat_lt 0 n
is_initialised Reference = true
is_initialised k = false

-- null, or the constant 0
abbrev pub is_null : Kind → Bool
is_null Zero = true
is_null Null = true
is_null k = false

-- a move of one register reads it
abbrev pub is_moved : Kind → Bool
is_moved Undefined = false
is_moved WideLow = false
is_moved WideHigh = false
is_moved k = true

abbrev pub number_kind : Bool → Kind
number_kind wide = if wide then WideLow else Word

-- ---- writes

-- the other kind where a kind is the old one
abbrev pub replaced : Kind → Kind → Kind → Kind
replaced old new k = if same_kind k old then new else k

-- what was made at a position and never initialised
abbrev pub forgotten : ℕ → Kind → Kind
forgotten n (Fresh c m) = if nat_eq m n then Undefined else Fresh c m
forgotten n k = k
