-- A typing of a body with other registers: at each position where registers that are read later and known have numbers of their
-- own, each register has the kind of the one that it stands for.
use Rattle.std.specs.Prelude.{◌≡◌, ◌↔◌, ℕ, zero, suc, ◌+◌, ◌-◌, Bool, true, false, ◌&&◌, ◌||◌, if◌then◌else◌, nat_eq, List, [], ◌∷◌, length, Option, Some, None, Contains}
use Rattle.std.specs.Option.{option_map}
use Rattle.dalvik_defs.specs.Names.{is_wide}
use Rattle.dalvik_defs.specs.declared.forms.Form.{Form}
use Rattle.dalvik_defs.specs.declared.program.NamedBody.{NamedBody}
use Rattle.dalvik_defs.specs.declared.program.NamedMethod.{NamedMethod}
use Rattle.dalvik_defs.specs.declared.program.NamedClass.{NamedClass}
use Rattle.dalvik_defs.specs.declared.program.NamedProgram.{NamedProgram}
use Rattle.pass_defs.specs.Walks.{form_at, IsRead}
use Rattle.pass_defs.specs.Kinds.{Kind, Undefined, Low, High, kind_eq}
use Rattle.pass_defs.specs.Registers.{Kinds, kind_at}
use Rattle.pass_defs.specs.Typed.{argument_kinds, Table, IsTyping}
use Rattle.form_laws.specs.Kinds.{is_whole, HasNarrowClass}
use Rattle.form_laws.specs.Solid.{IsSolid}
use Rattle.program_laws.specs.Bodies.{Change, KeepsCode}
use Rattle.form_laws.specs.Renamed.{IsRenamed}

-- which registers are read at a position or later before they are written, as a test
pub record Marks (b : NamedBody) : Type 0 where
  pub live : ℕ → ℕ → Bool
  pub is_live : (n r : ℕ) → (live n r ≡ true) ↔ IsRead b r n

-- ---- the table

module _ (new : ℕ → ℕ) (live : ℕ → Bool) (ks : List Kind) where
  -- both halves of a wide are live, and stay side by side
  abbrev pub is_pair : ℕ → Bool
  is_pair q = (live q && live (q + 1)) && (kind_eq (kind_at ks q) Low && (kind_eq (kind_at ks (q + 1)) High && nat_eq (new (q + 1)) (new q + 1)))

  -- a live register, whole or half of such a wide
  abbrev pub is_kept : ℕ → Bool
  is_kept o = live o && (is_whole (kind_at ks o) || (is_pair o || is_pair (o - 1)))

-- the greatest number below a bound that passes a test
abbrev pub sought : ℕ → (ℕ → Bool) → Option ℕ
sought zero test = None
sought (suc k) test = if test k then Some k else sought k test

abbrev pub kind_or : List Kind → Option ℕ → Kind
kind_or ks None = Undefined
kind_or ks (Some o) = kind_at ks o

-- the kind of the register that another one stands for
abbrev pub selected : (ℕ → ℕ) → (ℕ → Bool) → List Kind → ℕ → Kind
selected new live ks x = kind_or ks (sought (length ks) (λ o. is_kept new live ks o && nat_eq (new o) x))

-- the kinds of so many registers from one on
abbrev pub listed : ℕ → ℕ → (ℕ → Kind) → List Kind
listed zero at kind = []
listed (suc k) at kind = kind at ∷ listed k (at + 1) kind

abbrev pub renamed_kinds : (ℕ → ℕ) → (ℕ → Bool) → ℕ → Kinds → Kinds
renamed_kinds new live size a = record a { registers = listed size 0 (selected new live a.registers) }

-- from a position on, with kinds where they are told apart
abbrev pub renamed_from : (ℕ → ℕ) → (ℕ → ℕ → Bool) → (ℕ → Bool) → ℕ → ℕ → Table → Table
renamed_from new live apart size n [] = []
renamed_from new live apart size n (o ∷ t) = (if apart n then option_map (renamed_kinds new (live n) size) o else None) ∷ renamed_from new live apart size (n + 1) t

-- ---- what is asked

pub record IsTypedRenamed (p : NamedProgram) (c : NamedClass) (m : NamedMethod) (b d : NamedBody) : Type 0 where
  pub new : ℕ → ℕ
  pub renamed : IsRenamed b d new
  pub solid : IsSolid b
  pub marks : Marks b
  pub table : Table
  pub typing : IsTyping p c m b table
  -- a method takes as many registers as its arguments have
  pub takes : length (argument_kinds p c m) ≡ b.ins
  -- the class is of no wide type, and no method of one is called
  pub class : is_wide c.name ≡ false
  pub calls : (n : ℕ) (f : Form) → form_at b n ≡ Some f → HasNarrowClass f

-- so it is in each method, and methods have code where they had
pub record AllTypedRenamed (new : Change) (p : NamedProgram) : Type 0 where
  pub code : KeepsCode new
  pub bodies : (c : NamedClass) (m : NamedMethod) (b d : NamedBody) → Contains p.classes c → Contains c.methods m → m.body ≡ Some b → (new c m).body ≡ Some d → IsTypedRenamed p c m b d
