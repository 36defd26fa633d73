-- What the framework enters, and the initialisers of the classes that may be initialised.
use Rattle.std.specs.Prelude.{◌≡◌, ℕ, ◌-◌, ◌+◌, ◌<◌, Bool, true, false, ◌&&◌, not, Option, Some, None, is_some, slice_get, Contains}
use Rattle.std.specs.List.{list_any}
use Rattle.program_model.specs.declared.body.Body.{Body}
use Rattle.program_model.specs.declared.program.Method.{Method}
use Rattle.program_model.specs.declared.program.MethodAt.{MethodAt}
use Rattle.program_model.specs.declared.program.Class.{Class}
use Rattle.program_model.specs.declared.program.Program.{Program}
use Rattle.program_model.specs.Lookups.{method_at}
use Rattle.program_model.specs.MemberRules.{is_direct}
use Rattle.class_defs.specs.Finding.{is_037}
use Rattle.class_defs.specs.Members.{is_interface}
use Rattle.class_defs.specs.Places.{super_place, interface_places}
use Rattle.class_defs.specs.Starts.{initialiser_place}
use Rattle.domains.specs.Values.{any_value}
use Rattle.dom_frame.specs.Registers.{Registers, value_at}
use Rattle.facts.specs.declared.facts.Facts.{Facts}
use Rattle.call_targets.specs.declared.table.Targets.{Targets}
use Rattle.closed_facts.specs.Tables.{IsBelow, At, IsEntered, IsOpen, registers_at, parameter_at}
use Rattle.closed_facts.specs.Found.{needs}

-- whether a class has a virtual method with code
abbrev pub has_default : Program → Option Class → Bool
has_default p None = false
has_default p (Some k) = list_any (λ m. not (is_direct p m) && is_some m.body) k.methods

-- Marks of the classes that may be initialised, and of the interfaces that may be looked through for it: classes that the
-- framework or a reached position needs, those that are initialised before a marked one, and in version 037 the interfaces
-- with a default method above it. The initialiser of each marked class is entered.
pub record Starts (p : Program) (targets : Targets) (t : Facts) : Type 0 where
  pub marked : ℕ → Bool
  pub listed : ℕ → Bool
  pub by_framework : (c : ℕ) → slice_get targets.begun.items c ≡ Some true → marked c ≡ true
  pub by_code : (at : MethodAt) (n c : ℕ) (here : At p t at n) → Contains (needs p here.insn) c → marked c ≡ true
  pub above : (c u : ℕ) → marked c ≡ true → is_interface (slice_get p.classes c) ≡ false → super_place p c ≡ Some u → marked u ≡ true
  pub lists : (c u : ℕ) → is_037 p.version ≡ true → marked c ≡ true → is_interface (slice_get p.classes c) ≡ false → Contains (interface_places p c) u → listed u ≡ true
  pub lists_above : (c u : ℕ) → listed c ≡ true → is_interface (slice_get p.classes c) ≡ true → Contains (interface_places p c) u → listed u ≡ true
  pub defaults : (c : ℕ) → listed c ≡ true → is_interface (slice_get p.classes c) ≡ true → has_default p (slice_get p.classes c) ≡ true → marked c ≡ true
  pub initialisers : (c i : ℕ) (m : Method) → marked c ≡ true → initialiser_place p c ≡ Some i → method_at p (record { class = c; place = i }) ≡ Some m → IsEntered t m.name

pub record OpensEntries (p : Program) (targets : Targets) (t : Facts) : Type 0 where
  pub opens : (m : ℕ) → slice_get targets.entered.items m ≡ Some true → IsOpen t m
  pub starts : Starts p targets t

-- At a reached entry the arguments are at or above the parameters, and all other registers may be anything.
pub record BeginsAt (t : Facts) (method : ℕ) (b : Body) (x : Registers) : Type 0 where
  pub arguments : (i : ℕ) → i < b.ins → IsBelow (parameter_at t method i) (value_at x (b.registers - b.ins + i))
  pub others : (r : ℕ) → r < b.registers - b.ins → IsBelow any_value (value_at x r)

abbrev pub Begins : Program → Facts → Type 0
Begins p t = (at : MethodAt) (m : Method) (b : Body) (x : Registers) → method_at p at ≡ Some m → m.body ≡ Some b → registers_at t m.name 0 ≡ Some x → BeginsAt t m.name b x
