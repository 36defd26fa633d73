-- What calls leave of the marked methods, call by call.
use Rattle.std.specs.Prelude.{◌≡◌, ◌<◌, ◌^◌, ℕ, ◌&&◌, ◌||◌, not, Bool, true, false, nat_eq, List, length, flat_map, Option, Some, None, slice_get}
use Rattle.std.specs.List.{list_any}
use Rattle.insn_set.specs.declared.ops.InvokeKind.{InvokeKind}
use Rattle.insn_set.specs.declared.ops.InvokeKind.TheVariants as call
use Rattle.program_model.specs.declared.body.Body.{Body}
use Rattle.program_model.specs.declared.pass.Outside.{Outside}
use Rattle.program_model.specs.declared.pools.MethodName.{MethodName}
use Rattle.program_model.specs.declared.program.Method.{Method}
use Rattle.program_model.specs.declared.program.MethodAt.{MethodAt}
use Rattle.program_model.specs.declared.program.Program.{Program}
use Rattle.program_model.specs.Lookups.{class_place}
use Rattle.program_model.specs.MemberRules.{is_object}
use Rattle.program_model.specs.Texts.{type_text}
use Rattle.class_defs.specs.Finding.{Search, Nothing, Clash, Finds, finds_virtual}
use Rattle.class_defs.specs.Members.{own_virtual}
use Rattle.class_defs.specs.Places.{is_under}
use Rattle.receivers.specs.Receiving.{is_at}
use Rattle.loose_methods.specs.declared.calls.Marks.{Marks}
use Rattle.loose_methods.specs.Loose.{number_at, number_found, is_this, is_it, concerns, is_plain_call, may_find_at, receivers}
use Rattle.loose_methods.specs.Marking.{is_on, IsCandidate}

-- ---- what is found

abbrev pub number_searched : Program → Search → Option ℕ
number_searched p Nothing = None
number_searched p Clash = None
number_searched p (Finds at) = number_at p at

abbrev pub is_met_at : Program → ℕ → ℕ → Option ℕ → Bool
is_met_at p kind class (Some upper) = is_under p class upper
is_met_at p kind class None = is_object (type_text p kind)

-- a class is under a type, where it has no ancestor of the framework but Object
abbrev pub is_met_by : Program → ℕ → ℕ → Bool
is_met_by p kind class = is_met_at p kind class (class_place p kind)

-- an object of a class on which the call may be made finds the method
abbrev pub find_met : Program → MethodName → MethodAt → ℕ → Bool
find_met p q at d = is_met_by p q.class d && is_at at (finds_virtual p q.name q.proto d)

-- a virtual or interface call may find it
abbrev pub is_found : Program → ℕ → MethodName → Bool
is_found p n q = list_any (is_it p n) (flat_map (may_find_at p q) (receivers p q.class))

-- it is the virtual method of the name and proto that a class itself defines
abbrev pub is_own_it : Program → ℕ → MethodName → ℕ → Bool
is_own_it p n q class = is_this n (number_found p (own_virtual p q.name q.proto class))

-- virtual calls of a method number, in whatever method they stand, let the method be static where they do by what they find
abbrev pub is_clear : Program → ℕ → ℕ → MethodName → Bool
is_clear p n called q = not (concerns p n 0 call.Virtual called q) || is_plain_call p n 0 call.Virtual called q

-- ---- marks

abbrev pub HasCandidates : Program → Outside → List Bool → Type 0
HasCandidates p o marks = (n : ℕ) → is_on marks n ≡ true → IsCandidate p o n

-- those that are marked and pass a test are marked then
pub record Keeps (test : ℕ → Bool) (old new : List Bool) : Type 0 where
  pub long : length new ≡ length old
  pub are : (n : ℕ) → is_on new n ≡ (is_on old n && test n)

abbrev pub KeepsUnfound : Program → MethodName → ℕ → List Bool → List Bool → Type 0
KeepsUnfound p q class old new = Keeps (λ n. not (is_own_it p n q class && is_found p n q)) old new

-- the virtual calls of a number are plain ones of a method, or of no marked one
abbrev pub KeepsPlain : Program → List Bool → ℕ → MethodName → Bool → Type 0
KeepsPlain p marks called q true = (n : ℕ) × (is_plain_call p n 0 call.Virtual called q ≡ true)
KeepsPlain p marks called q false = (n : ℕ) → is_on marks n ≡ true → is_plain_call p n 0 call.Virtual called q ≡ false

-- the methods that no class of a list defines so that a call finds it
abbrev pub unfound_in : Program → MethodName → List ℕ → ℕ → Bool
unfound_in p q cs n = not (list_any (λ c. is_own_it p n q c && is_found p n q) cs)

-- two numbers that are the same
abbrev pub same_some : Option ℕ → Option ℕ → Bool
same_some None other = false
same_some (Some a) None = false
same_some (Some a) (Some b) = nat_eq a b

-- what was looked at lets each marked method be static
pub record IsSifted (p : Program) (o : Outside) (m : Marks) : Type 0 where
  pub candidates : HasCandidates p o m.loose.items
  pub virtuals : (n called : ℕ) (q : MethodName) → slice_get p.methods called ≡ Some q → is_on m.virtual_calls.items called ≡ true → is_on m.loose.items n ≡ true → is_clear p n called q ≡ true
  pub interfaces : (n called : ℕ) (q : MethodName) → slice_get p.methods called ≡ Some q → is_on m.interface_calls.items called ≡ true → is_on m.loose.items n ≡ true → concerns p n 0 call.Interface called q ≡ false

pub record Sifts (p : Program) (o : Outside) (test : ℕ → Bool) (old new : Marks) : Type 0 where
  pub sifted : IsSifted p o new
  pub keeps : Keeps test old.loose.items new.loose.items

-- a call lets the method be static, which is safe or isn't
abbrev pub allows_so : Program → ℕ → InvokeKind → ℕ → MethodName → Bool → ℕ → Bool
allows_so p caller kind called q safe n = not (concerns p n caller kind called q) || (safe && is_plain_call p n caller kind called q)

abbrev pub allows_entry : Program → ℕ → InvokeKind → ℕ → Option MethodName → Bool → ℕ → Bool
allows_entry p caller kind called None safe n = true
allows_entry p caller kind called (Some q) safe n = allows_so p caller kind called q safe n

-- ---- positions

abbrev pub IsShortCode : Option Body → Type 0
IsShortCode None = Unit {0}
IsShortCode (Some b) = length b.insns < 2 ^ 32

abbrev pub AreShortCodes : List Method → Type 0
AreShortCodes ms = (i : ℕ) (m : Method) → slice_get ms i ≡ Some m → IsShortCode m.body
