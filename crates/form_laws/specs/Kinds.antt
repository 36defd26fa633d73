-- The same kinds in the registers that a form with other registers reads.
use Rattle.std.specs.Prelude.{◌≡◌, ℕ, ◌+◌, Bool, true, false, nat_eq, List, [], ◌∷◌}
use Rattle.std.specs.List.{list_any}
use Rattle.dalvik_defs.specs.Names.{is_wide}
use Rattle.dalvik_defs.specs.declared.forms.Form.{Form}
use Rattle.dalvik_defs.specs.declared.forms.Form.TheVariants as form
use Rattle.pass_defs.specs.Bare.{reads}
use Rattle.pass_defs.specs.Packed.{wides_read}
use Rattle.pass_defs.specs.Kinds.{Kind, Undefined, Low, High}
use Rattle.pass_defs.specs.Registers.{kind_at}
use Rattle.pass_defs.specs.Demands.{Demand, Pair, Behind}
use Rattle.form_laws.specs.Changes.{In}

-- a demand where registers have other numbers
abbrev pub renamed : (ℕ → ℕ) → Demand → Demand
renamed r (Behind q) = Behind (r q)
renamed r x = x

-- the second operand of an If is asked for by the kind of the first
abbrev pub AtFirst : (ℕ → ℕ) → List Kind → List Kind → Form → Type 0
AtFirst r ks ks' (form.If test a b target) = kind_at ks' (r a) ≡ kind_at ks a
AtFirst r ks ks' f = Unit {0}

-- the kinds that a demand looks at are the same, and registers behind others stay so
pub record SameKinds (r : ℕ → ℕ) (ks ks' : List Kind) (x : ℕ × Demand) : Type 0 where
  pub first : kind_at ks' (r x.0) ≡ kind_at ks x.0
  pub second : x.1 ≡ Pair → kind_at ks' (r x.0 + 1) ≡ kind_at ks (x.0 + 1)
  pub behind : (q : ℕ) → x.1 ≡ Behind q → r (q + 1) ≡ r q + 1

abbrev pub AllSame : (ℕ → ℕ) → List Kind → List Kind → List (ℕ × Demand) → Type 0
AllSame r ks ks' [] = Unit {0}
AllSame r ks ks' (x ∷ xs) = SameKinds r ks ks' x × AllSame r ks ks' xs

-- An operand that is asked for is read: of a wide both halves. A register that must be behind another is its second half.
abbrev pub IsAsked : Form → List (ℕ × Demand) → ℕ → Demand → Type 0
IsAsked f all x Pair = (list_any (nat_eq x) (wides_read f) ≡ true) × ((reads f x ≡ true) × (reads f (x + 1) ≡ true))
IsAsked f all x (Behind q) = In (q, Pair) all
IsAsked f all x d = reads f x ≡ true

-- no method of a wide type is called
abbrev pub HasNarrowClass : Form → Type 0
HasNarrowClass (form.Invoke kind k args) = is_wide k.class ≡ false
HasNarrowClass f = Unit {0}

-- a kind that is neither undefined nor half of a wide
abbrev pub is_whole : Kind → Bool
is_whole Undefined = false
is_whole Low = false
is_whole High = false
is_whole k = true

-- Under other names, live registers have the kinds that they had, and live wides both their halves.
pub record Held (new : ℕ → ℕ) (live : ℕ → Bool) (ks ks' : List Kind) : Type 0 where
  pub whole : (o : ℕ) → live o ≡ true → is_whole (kind_at ks o) ≡ true → kind_at ks' (new o) ≡ kind_at ks o
  pub pairs : (q : ℕ) → live q ≡ true → live (q + 1) ≡ true → new (q + 1) ≡ new q + 1 → kind_at ks q ≡ Low → kind_at ks (q + 1) ≡ High
      → (kind_at ks' (new q) ≡ Low) × (kind_at ks' (new q + 1) ≡ High)
