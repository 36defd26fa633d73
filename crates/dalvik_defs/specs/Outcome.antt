-- What comes of an effect by what the program and its classes answer: the frame goes on or tries again, or something
-- begins or ends. It doesn't depend on the stack below (Dalvik bytecode, "invoke-kind", "new-instance", "sget", "iget";
-- this project's profile).
use Rattle.std.specs.Prelude.{ℕ, ◌+◌, ◌-◌, Bool, true, false, ◌&&◌, List, [], ◌∷◌, Option, Some, None}
use Rattle.insn_set.specs.declared.ops.Item.{Item}
use Rattle.insn_set.specs.declared.ops.InvokeKind.{InvokeKind}
use Rattle.insn_set.specs.declared.ops.InvokeKind.TheVariants as call
use Rattle.dalvik_defs.specs.Names.{Text, method_eq, proto_text, object_constructor}
use Rattle.dalvik_defs.specs.Flags.{is_static, is_native}
use Rattle.dalvik_defs.specs.Known.{null_pointer, no_class, class_change, abstract_method}
use Rattle.dalvik_defs.specs.Find.{Found, Search, Nothing, Clash, Finds}
use Rattle.dalvik_defs.specs.Face.{Face, Place, is_defined}
use Rattle.dalvik_defs.specs.State.{World, Classes, Status, New, Running, Done, Failed, Value, Word, Frame, is_null, thing_at, next_object, with_thing, fresh, kind_of, put_lock}
use Rattle.dalvik_defs.specs.Fields.{key_at, static_value, instance_value, with_static, with_instance}
use Rattle.dalvik_defs.specs.Effect.{Effect, Goes, Faults, Throws, Gives, Calls, Makes, Reads, Writes, Locks, Unlocks, Stuck, write, write_item, next}
use Rattle.dalvik_defs.specs.Show.{show, show_all, show_option}
use Rattle.dalvik_defs.specs.declared.names.MethodKey.{MethodKey}
use Rattle.dalvik_defs.specs.declared.names.FieldKey.{FieldKey}
use Rattle.dalvik_defs.specs.declared.events.Event.{Event}
use Rattle.dalvik_defs.specs.declared.events.Event.TheVariants as event

pub data Outcome : Type 0 where
  -- goes on in the frame, and may show something
  Stays : (world : World) (frame : Frame) (shown : Option Event) → Outcome
  -- a class is initialised first, and then the frame tries again
  Starts : (class : Text) → Outcome
  -- begins a call of a program method, or one of the framework, which owes an answer of a type
  Enters : (method : MethodKey) (values : List Value) → Outcome
  Leaves : (world : World) (owes : Text) (shown : Event) → Outcome
  -- ends the frame, or throws in it
  Ends : (value : Option Value) → Outcome
  Raises : (world : World) (thrown : Value) → Outcome
  -- there is no step
  Halts : Outcome

-- ---- classes that are needed

pub data Need : Type 0 where
  Ready : Need
  Fresh : Need
  Broken : Need

-- a running or done class is no hindrance
abbrev pub need_at : Status → Need
need_at New = Fresh
need_at Running = Ready
need_at Done = Ready
need_at Failed = Broken

-- a class that the program doesn't define is always ready
abbrev pub need_if : Bool → Status → Need
need_if true s = need_at s
need_if false s = Ready

abbrev pub need_of : Face → Classes → Text → Need
need_of face classes c = need_if (is_defined face c) (classes c)

-- a new object of a class is thrown
abbrev pub faults : World → Text → Outcome
faults w class = Raises (with_thing w (fresh class)) (next_object w)

abbrev pub when_ready : Need → World → Text → Outcome → Outcome
when_ready Ready w c now = now
when_ready Fresh w c now = Starts c
when_ready Broken w c now = faults w no_class

-- ---- calls

-- the types of what a call passes
abbrev pub passed_types : Bool → MethodKey → List Text
passed_types static k = elim static [ true ↦ k.signature.parameters | false ↦ k.class ∷ k.signature.parameters ]

abbrev pub calls_out : InvokeKind → Bool → MethodKey → List Value → World → Outcome
calls_out kind static k values w =
    let s = show_all w (passed_types static k) values in
    Leaves s.0 k.signature.result (event.Call kind k.class k.name (proto_text k.signature) s.1)

-- of a virtual or interface call that finds a native method the kind is virtual
abbrev pub native_kind : InvokeKind → InvokeKind
native_kind call.Interface = call.Virtual
native_kind kind = kind

abbrev pub takes_no_receiver : InvokeKind → Bool
takes_no_receiver call.Static = true
takes_no_receiver kind = false

abbrev pub calls_uncoded : InvokeKind → Found → List Value → World → Outcome
calls_uncoded kind g values w = elim (is_native g.flags) [
  | true ↦ calls_out (native_kind kind) (takes_no_receiver kind) g.key values w
  | false ↦ faults w abstract_method
]

abbrev pub calls_found : InvokeKind → Found → List Value → World → Outcome
calls_found kind g values w = elim g.coded [ true ↦ Enters g.key values | false ↦ calls_uncoded kind g values w ]

-- the class of a found static method is initialised first
abbrev pub calls_ready : (Text → Need) → InvokeKind → Found → List Value → World → Outcome
calls_ready need kind g values w = elim (is_static g.flags) [
  | true ↦ when_ready (need g.key.class) w g.key.class (calls_found kind g values w)
  | false ↦ calls_found kind g values w
]

abbrev pub is_direct : InvokeKind → Bool
is_direct call.Direct = true
is_direct kind = false

-- what isn't found belongs to the framework; a direct call of the constructor of Object does nothing
abbrev pub calls_unfound : InvokeKind → MethodKey → List Value → World → Frame → Outcome
calls_unfound kind k values w f = elim (is_direct kind && method_eq k object_constructor) [
  | true ↦ Stays w (next (record f { result = Word 0 })) None
  | false ↦ calls_out kind (takes_no_receiver kind) k values w
]

abbrev pub calls_by : (Text → Need) → InvokeKind → MethodKey → List Value → World → Frame → Search → Outcome
calls_by need kind k values w f Nothing = calls_unfound kind k values w f
calls_by need kind k values w f Clash = faults w class_change
calls_by need kind k values w f (Finds g) = calls_ready need kind g values w

abbrev pub receiver : List Value → Value
receiver [] = Word 0
receiver (v ∷ vs) = v

abbrev pub on_receiver : List Value → World → Outcome → Outcome
on_receiver values w now = elim (is_null (receiver values)) [ true ↦ faults w null_pointer | false ↦ now ]

abbrev pub calls : Face → (Text → Need) → InvokeKind → MethodKey → List Value → World → Frame → Outcome
calls face need call.Static k values w f = calls_by need call.Static k values w f (face.statically k)
calls face need call.Direct k values w f = on_receiver values w (calls_by need call.Direct k values w f (face.statically k))
calls face need call.Super k values w f = on_receiver values w (calls_by need call.Super k values w f (face.above f.method.class k))
calls face need call.Virtual k values w f = on_receiver values w (calls_by need call.Virtual k values w f (face.virtually (kind_of w (receiver values)) k))
calls face need call.Interface k values w f = on_receiver values w (calls_by need call.Interface k values w f (face.virtually (kind_of w (receiver values)) k))

-- ---- objects

abbrev pub makes : Face → (Text → Need) → ℕ → Text → World → Frame → Outcome
makes face need to c w f = let made = with_thing w (fresh c) in let g = next (write f to (next_object w)) in
    elim (is_defined face c) [
      | true ↦ when_ready (need c) w c (Stays made g None)
      | false ↦ let s = show made c (next_object w) in Stays s.0 g (Some (event.Make s.1))
    ]

-- ---- fields

abbrev pub reads_value : Item → ℕ → Option Value → World → Frame → Outcome
reads_value item to (Some v) w f = Stays w (next (write_item item f to v)) None
reads_value item to None w f = Halts

-- a framework field is read by the framework, which owes the value
abbrev pub reads_out : FieldKey → Option Value → World → Outcome
reads_out k on w = let s = show_option w k.class on in Leaves s.0 k.kind (event.Get k.class k.name k.kind s.1)

abbrev pub reads_static : (Text → Need) → Item → ℕ → FieldKey → World → Frame → Option Place → Outcome
reads_static need item to k w f (Some place) = when_ready (need place.class) w place.class (reads_value item to (Some (static_value w k place)) w f)
reads_static need item to k w f None = reads_out k None w

abbrev pub reads_instance : Item → ℕ → FieldKey → Value → World → Frame → Option Place → Outcome
reads_instance item to k on w f (Some place) = reads_value item to (instance_value k place (thing_at w on)) w f
reads_instance item to k on w f None = reads_out k (Some on) w

abbrev pub reads : Face → (Text → Need) → Item → ℕ → FieldKey → Option Value → World → Frame → Outcome
reads face need item to k None w f = reads_static need item to k w f (face.field k)
reads face need item to k (Some on) w f = reads_instance item to k on w f (face.field k)

abbrev pub writes_out : FieldKey → Option Value → Value → World → Frame → Outcome
writes_out k on v w f = let s = show_option w k.class on in let t = show s.0 k.kind v in
    Stays t.0 (next f) (Some (event.Put k.class k.name k.kind s.1 t.1))

abbrev pub written : Option World → Frame → Outcome
written (Some w) f = Stays w (next f) None
written None f = Halts

abbrev pub writes_static : (Text → Need) → FieldKey → Value → World → Frame → Option Place → Outcome
writes_static need k v w f (Some place) = when_ready (need place.class) w place.class (Stays (with_static w (key_at k place) v) (next f) None)
writes_static need k v w f None = writes_out k None v w f

abbrev pub writes_instance : FieldKey → Value → Value → World → Frame → Option Place → Outcome
writes_instance k on v w f (Some place) = written (with_instance w (key_at k place) on v (thing_at w on)) f
writes_instance k on v w f None = writes_out k (Some on) v w f

abbrev pub writes : Face → (Text → Need) → FieldKey → Option Value → Value → World → Frame → Outcome
writes face need k None v w f = writes_static need k v w f (face.field k)
writes face need k (Some on) v w f = writes_instance k on v w f (face.field k)

-- ---- monitors

abbrev pub with_lock : World → Value → ℕ → World
with_lock w v n = record w { locks = put_lock v n w.locks }

abbrev pub locks : World → Value → Frame → Outcome
locks w v f = let s = show w (kind_of w v) v in Stays (with_lock s.0 v (w.locks v + 1)) (next f) (Some (event.Lock s.1))

abbrev pub unlocks : World → Value → Frame → Outcome
unlocks w v f = let s = show w (kind_of w v) v in Stays (with_lock s.0 v (w.locks v - 1)) (next f) (Some (event.Unlock s.1))

-- ---- an effect

abbrev pub outcome : Face → (Text → Need) → Effect → World → Frame → Outcome
outcome face need (Goes w' f') w f = Stays w' f' None
outcome face need (Faults c) w f = faults w c
outcome face need (Throws v) w f = Raises w v
outcome face need (Gives v) w f = Ends v
outcome face need (Calls kind k values) w f = calls face need kind k values w f
outcome face need (Makes to c) w f = makes face need to c w f
outcome face need (Reads item to k on) w f = reads face need item to k on w f
outcome face need (Writes k on v) w f = writes face need k on v w f
outcome face need (Locks v) w f = locks w v f
outcome face need (Unlocks v) w f = unlocks w v f
outcome face need Stuck w f = Halts
