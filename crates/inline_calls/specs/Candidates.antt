-- Calls that may be sites by themselves, by number: what is called and what is known at the call (this project's profile).
use Rattle.std.specs.Prelude.{◌≡◌, ℕ, ◌+◌, ◌<◌, min, Bool, true, false, ◌&&◌, not, nat_eq, nat_le, List, [], ◌∷◌, length, codes, Option, Some, None, is_some, slice_get, slice_index_or, if◌then◌else◌}
use Rattle.std.specs.List.{list_any}
use Rattle.insn_set.specs.Widths.{is_wide_slot}
use Rattle.insn_set.specs.declared.ops.InvokeKind.TheVariants as call
use Rattle.insn_set.specs.declared.form.Insn.{Insn}
use Rattle.insn_set.specs.declared.form.Insn.TheVariants as insn
use Rattle.dalvik_defs.specs.Names.{text_eq}
use Rattle.class_defs.specs.Finding.{finds_static}
use Rattle.hierarchy.specs.Shapes.{IsOf}
use Rattle.hierarchy.specs.declared.Hierarchy.{Hierarchy}
use Rattle.program_model.specs.Lookups.{method_at}
use Rattle.program_model.specs.MemberRules.{has_flag, proto_of}
use Rattle.program_model.specs.Texts.{string_text, letter_of, is_void, is_wide}
use Rattle.program_model.specs.declared.pools.MethodName.{MethodName}
use Rattle.program_model.specs.declared.pools.Proto.{Proto}
use Rattle.program_model.specs.declared.body.Body.{Body}
use Rattle.program_model.specs.declared.body.Region.{Region}
use Rattle.program_model.specs.declared.program.Method.{Method}
use Rattle.program_model.specs.declared.program.MethodAt.{MethodAt}
use Rattle.program_model.specs.declared.program.Program.{Program}
use Rattle.domains.specs.Datum.{Plain, Single}
use Rattle.domains.specs.Values.{value_holds}
use Rattle.dom_frame.specs.declared.frames.Frame.{Frame}
use Rattle.dom_frame.specs.Registers.{value_at}
use Rattle.facts.specs.Lent.{frame_at}
use Rattle.facts.specs.declared.facts.Facts.{Facts}
use Rattle.splice.specs.Callees.{Taken, chosen_at, taken_by, args_of}
use Rattle.splice.specs.Moves.{parameters_of}
use Rattle.splice.specs.declared.callee.Callee.{Callee}
use Rattle.inline_calls.specs.declared.site.Known.{Known}
use Rattle.inline_calls.specs.declared.site.Caller.{Caller}

-- the method that a static or direct call finds
abbrev pub found_by : Program → Insn → Option MethodAt
found_by p (insn.Invoke call.Static method args) = finds_static p method
found_by p (insn.Invoke call.Direct method args) = finds_static p method
found_by p i = None

-- ---- the caller's code

-- a region covers a position and no other
abbrev pub covers_alone : ℕ → Region → Bool
covers_alone n r = nat_eq r.first n && nat_eq r.end (min (n + 1) 4294967295)

-- a move-result stands behind a position that is all that some region covers
abbrev pub result_stands_alone : Body → ℕ → Bool
result_stands_alone b n = is_some (taken_by (slice_get b.insns (n + 1))) && list_any (covers_alone (min (n + 1) 4294967295)) b.regions

-- ---- the method that is called

-- at most 16 instructions, and no regions
abbrev pub is_small : Body → Bool
is_small b = nat_le (length b.insns) 16 && nat_eq (length b.regions) 0

-- at most 16 registers together
abbrev pub has_registers : Body → Body → Bool
has_registers b c = nat_le (b.registers + c.registers) 16

-- the name of a method, empty where there is no such method; `<init>` is that of a constructor
abbrev pub name_in : Program → Option MethodName → List ℕ
name_in p None = []
name_in p (Some m) = string_text p m.name

abbrev pub name_units : Program → ℕ → List ℕ
name_units p method = name_in p (slice_get p.methods method)

abbrev pub is_plain : Program → Method → Bool
is_plain p m = not (text_eq (name_units p m.name) (codes "<init>"))

-- another method of the class
abbrev pub is_beside : MethodAt → MethodAt → Bool
is_beside at found = nat_eq found.class at.class && not (nat_eq found.place at.place)

-- another plain method of the caller's class, which is short enough to be copied at a position
abbrev pub is_suited : Program → Caller → ℕ → MethodAt → Method → Body → Bool
is_suited p c n place m b = is_beside c.at place && is_plain p m && is_small b && has_registers c.body.now b && not (result_stands_alone c.body.now n)

-- ---- what is passed and taken. Where a typed program has a call that a walk reaches, all of this holds of it.

-- what stands behind the registers of an argument: one register, or two of which the second follows the first
abbrev pub second_behind : ℕ → List ℕ → Option (List ℕ)
second_behind r [] = None
second_behind r (q ∷ rs) = if nat_eq q (r + 1) then Some rs else None

abbrev pub arg_behind : Bool → List ℕ → Option (List ℕ)
arg_behind wide [] = None
arg_behind wide (r ∷ rs) = if wide then second_behind r rs else Some rs

-- the registers are those of arguments of these types, and no more
abbrev pub args_fit : Program → List ℕ → List ℕ → Bool
args_fit p [] rs = nat_eq (length rs) 0
args_fit p (kind ∷ kinds) rs = elim (arg_behind (is_wide (letter_of p kind)) rs) [ Some behind ↦ args_fit p kinds behind | None ↦ false ]

-- a static call of a static method, or another one of a method with a receiver, and the arguments behind it
abbrev pub args_behind : Bool → Insn → Option (List ℕ)
args_behind true (insn.Invoke call.Static method args) = Some args
args_behind true i = None
args_behind false (insn.Invoke call.Direct method args) = arg_behind false args
args_behind false i = None

abbrev pub passes_args : Program → Method → Option (List ℕ) → Bool
passes_args p m None = false
passes_args p m (Some rs) = args_fit p (parameters_of p m.name) rs

-- the type that a method gives
abbrev pub result_in : Option Proto → ℕ
result_in None = 4294967295
result_in (Some proto) = proto.result

abbrev pub result_of : Program → ℕ → ℕ
result_of p method = result_in (proto_of p method)

-- where a result is taken, it is one, and as wide
abbrev pub takes_result : Program → Method → Taken → Bool
takes_result p m None = true
takes_result p m (Some t) = not (is_void (letter_of p (result_of p m.name))) && (if is_wide (letter_of p (result_of p m.name)) then is_wide_slot t.0 else not (is_wide_slot t.0))

-- the call passes what the method takes, and takes what it gives
abbrev pub is_agreeing : Program → Body → ℕ → Insn → Method → Bool
is_agreeing p b n i m = passes_args p m (args_behind (has_flag m.flags 8) i) && takes_result p m (taken_by (slice_get b.insns (n + 1)))

-- ---- entering at once

-- the register of a call's receiver, 65,535 where it passes none
abbrev pub receiver_in : Insn → ℕ
receiver_in i = first_of (args_of i) where
  first_of : List ℕ → ℕ
  first_of [] = 65535
  first_of (r ∷ rs) = r

-- initialising the class of a static method runs no code
abbrev pub starts_trivially : Hierarchy → ℕ → Bool
starts_trivially h class = slice_index_or h.starts.trivial.items class false

-- the facts know a frame at the position, in which the register holds no null
pub record KnowsReceiver (facts : Facts) (method n r : ℕ) : Type 0 where
  pub frame : Frame
  pub here : frame_at facts.frames.items method n ≡ Some frame
  pub never_null : value_holds (value_at frame.registers r) (Plain (Single 0)) → ⊥

-- the class of a static method runs no code as it is initialised, and the receiver of another is not null
pub record EntersAtOnce (k : Known) (m : Method) (n : ℕ) (i : Insn) (callee : Method) (class : ℕ) : Type 0 where
  pub static : has_flag callee.flags 8 ≡ true → starts_trivially k.hierarchy.now class ≡ true
  pub direct : has_flag callee.flags 8 ≡ false → KnowsReceiver k.facts.now m.name (min n 4294967295) (receiver_in i)

-- ---- candidates

-- A call at a position of a caller finds this method, which is suited to be copied there and is entered at once.
pub record IsCandidate (k : Known) (c : Caller) (n : ℕ) (y : Callee) : Type 0 where
  pub insn : Insn
  pub here : slice_get c.body.now.insns n ≡ Some insn
  pub place : MethodAt
  pub finds : IsOf k.program.now k.hierarchy.now → found_by k.program.now insn ≡ Some place
  pub method : method_at k.program.now place ≡ Some y.method.now
  pub code : y.method.now.body ≡ Some y.body.now
  pub suited : is_suited k.program.now c n place y.method.now y.body.now ≡ true
  pub agrees : is_agreeing k.program.now c.body.now n insn y.method.now ≡ true
  pub enters : EntersAtOnce k c.method.now n insn y.method.now place.class

-- No method is a candidate at a position. Calls are looked up in a hierarchy, so it has to be that of the program.
abbrev pub IsUnsuited : Known → Caller → ℕ → Type 0
IsUnsuited k c n = IsOf k.program.now k.hierarchy.now → (y : Callee) → IsCandidate k c n y → ⊥

-- what is chosen at each position is a candidate there
abbrev pub AreCandidates : Known → Caller → List (Option Callee) → Type 0
AreCandidates k c chosen = (n : ℕ) (y : Callee) → chosen_at chosen n ≡ Some y → IsCandidate k c n y

-- ---- what is chosen

-- the same up to a position, at which a method more is chosen, the last one
pub record IsWith (old : List (Option Callee)) (n : ℕ) (y : Callee) (new : List (Option Callee)) : Type 0 where
  pub long : length new ≡ n + 1
  pub before : (k : ℕ) → k < n → chosen_at new k ≡ chosen_at old k
  pub here : chosen_at new n ≡ Some y
