-- Objects that the framework makes, by numbers and by names.
use Rattle.std.proofs.Common.{◌≡◌, ℕ, zero, suc, ◌+◌, ◌<◌, ◌≤◌, ◌++◌, Bool, true, false, true≢false, List, [], ◌∷◌, length, replicate, arith, ap, refl, sym, subst, ◌∙◌, lt-ltb}
use Rattle.std.specs.Prelude.{◌^◌, ◌&&◌, ◌||◌, drop, nat_lt, not, Option, Some, None, option_and_then, slice_get}
use Rattle.std.specs.Option.{option_map}
use Rattle.std.specs.List.{list_any}
use Rattle.program_model.specs.declared.pass.Outside.{Outside as OwnOutside}
use Rattle.program_model.specs.declared.program.Class.{Class}
use Rattle.program_model.specs.declared.program.Program.{Program}
use Rattle.class_defs.proofs.WellFormed.{class_parts}
use Rattle.name_bridge.proofs.Tables.{sound}
use Rattle.dalvik_defs.specs.Face.{Bodies, is_concrete}
use Rattle.dalvik_defs.specs.Flags.{is_abstract, is_interface}
use Rattle.dalvik_defs.specs.Happens.{Setting}
use Rattle.dalvik_defs.specs.Legal.{may_make}
use Rattle.dalvik_defs.specs.Moves.{made, make, needs}
use Rattle.dalvik_defs.specs.Names.{Text, is_array, text_eq}
use Rattle.dalvik_defs.specs.Naming.{text_at, type_at}
use Rattle.dalvik_defs.specs.Outer.{outer_of}
use Rattle.dalvik_defs.specs.Outcome.{need_of}
use Rattle.dalvik_defs.specs.State.{Classes, Ended, Next, On, World as NamedWorld, quiet}
use Rattle.dalvik_defs.specs.declared.events.Event.{Event}
use Rattle.dalvik_defs.specs.declared.events.Event.TheVariants as event
use Rattle.dalvik_defs.specs.declared.events.Shown.{Shown}
use Rattle.dalvik_defs.specs.declared.script.Move.{Move}
use Rattle.dalvik_defs.specs.declared.state.Waiting.{Waiting as NamedWaiting}
use Rattle.dalvik_lookups.specs.Facing.{run_face}
use Rattle.dalvik_lookups.specs.Reached.{constructed_kinds, has_descriptor}
use Rattle.dalvik_lookups.specs.Tables.{place_named, IsRight}
use Rattle.dalvik_lookups.specs.Views.{name_at, type_text, IsType}
use Rattle.dalvik_lookups.specs.declared.lookups.Lookups.{Lookups}
use Rattle.dalvik_lookups.specs.declared.memo.Memo.{Memo}
use Rattle.dalvik_lookups.specs.declared.types.Kind.{Kind}
use Rattle.dalvik_lookups.specs.declared.types.Types.{Types}
use Rattle.dalvik_lookups.proofs.Facing.{class_of, right_face}
use Rattle.dalvik_lookups.proofs.Placed.{class_bare}
use Rattle.dalvik_state.specs.declared.datum.Datum.{Datum}
use Rattle.dalvik_state.specs.declared.state.State.{State}
use Rattle.dalvik_state.specs.Runs.{classes_in, script_in, stack_in, world_in, IsEvent}
use Rattle.dalvik_state.specs.States.{class_text, classes_of, pending_top, state_of, IsFineKind, IsRunning}
use Rattle.dalvik_state.specs.Views.{names_in, world_of}
use Rattle.dalvik_state.specs.Worlds.{spots_of}
use Rattle.dalvik_state.proofs.Deep.{never_empty}
use Rattle.dalvik_state.proofs.Marked.{constructed_marked}
use Rattle.dalvik_state.proofs.Running.{running_held, running_more, running_of, running_paced, running_stack, stack_more, AreHeld, ArePaced, AreSoundWaiting}
use Rattle.dalvik_steps.specs.Reaching.{IsMade}
use Rattle.dalvik_moves.specs.Moving.{freed_in, IsDone, IsMoving}
use Rattle.dalvik_moves.proofs.Moved.{freed_named, state_on, turned_runs}

-- ---- the class of an object

-- its text, and its type by number
pub class_named : (p : Program) (class : ℕ) (k : Class) → slice_get p.classes class ≡ Some k → class_text p class ≡ type_at p k.name
class_named p class k e = ap (λ (o : Option Class). elim o as (λ o. Text) [ Some d ↦ type_at p d.name | None ↦ [] ]) e

no_brackets : (t : Types) (k : Kind) (d : ℕ) → k.depth ≡ d → is_array (type_text t k) ≡ false → d ≡ 0
no_brackets t k zero e h = refl
no_brackets t k (suc d) e h = absurd (true≢false (sym (ap (λ (n : ℕ). is_array (replicate n 91 ++ name_at t k.base)) e) ∙ h))

pub class_kind : (l : Lookups) → IsRight l → (class : ℕ) (c : Class) (k : Kind) → slice_get l.program.now.classes class ≡ Some c → IsType l.types k (type_at l.program.now c.name) → IsFineKind l k
class_kind l r class c k e h =
    let none = no_brackets l.types k k.depth refl (ap is_array h.text ∙ class_bare l.program.now r.well class c e) in
    record { there = h.kind; deep = omega (arith, none) }

-- the class at a place
pub class_below : (p : Program) (class : ℕ) → class < length p.classes → (k : Class) × (slice_get p.classes class ≡ Some k)
class_below p class low = at p.classes class low
  where
    at : (ks : List Class) (i : ℕ) → i < length ks → (k : Class) × (slice_get ks i ≡ Some k)
    at [] i low = absurd (omega (arith, low))
    at (k ∷ ks) zero low = (k, refl)
    at (k ∷ ks) (suc i) low = at ks i (omega (arith, low))

-- ---- an object is made and shown

module _ (l : Lookups) (o : OwnOutside) (m : Memo) (script : List Move) (steps : ℕ) (old mid new : State) (owes : Option Kind) (first : Move) (rest : List Move) (kind : Kind) (d : Datum) (e : Event)
    (h : IsMoving l o m script steps old owes first rest) (x : IsMade l old mid kind d e) (done : IsDone mid new) where
  made_runs : IsRunning l (steps + 1) mid
  made_runs =
      let run = running_more l steps old h.run.state in
      let size = x.made.size in
      let low : length (spots_of old.world) ≤ length (spots_of mid.world) = omega (arith, size) in
      running_of l (steps + 1) mid x.made.sound (ap (λ v. length v.items) x.statuses ∙ h.run.state.classes)
      (subst (AreSoundWaiting l (length (spots_of mid.world))) (sym x.stack) (stack_more l (length (spots_of old.world)) (length (spots_of mid.world)) old.stack.items low (running_stack l (steps + 1) old run)))
      (subst (ArePaced (2 ^ 32 + (steps + 1))) (sym x.stack) (running_paced l (steps + 1) old run))
      (subst (AreHeld (steps + 1)) (sym x.made.locks) (running_held l (steps + 1) old run))

  pub made_event : (c : Text) → type_text l.types kind ≡ c → IsEvent l steps script new (Some e) (made (world_in l old) (classes_in l old) c (freed_in l script old) rest)
  made_event c text =
      let n = names_in l in
      let left : drop new.next script ≡ rest = ap (λ (k : ℕ). drop k script) (done.next ∙ x.next) ∙ h.left in
      let stack : stack_in l script new ≡ freed_in l script old = freed_named l o m script steps old owes first rest h new.stack.items (done.stack ∙ ap (pending_top None) x.stack) in
      let at : state_of n script new ≡ On (world_in l mid) (classes_in l old) (freed_in l script old) rest =
      state_on l script new (done.ended ∙ x.ended ∙ h.run.on)
      ∙ ap (λ w. On (world_of n w) (classes_in l new) (stack_in l script new) (script_in script new)) done.world
      ∙ ap (λ v. On (world_in l mid) (classes_of l.program.now v.items) (stack_in l script new) (script_in script new)) (done.statuses ∙ x.statuses)
      ∙ ap (λ (ws : List NamedWaiting). On (world_in l mid) (classes_in l old) ws (script_in script new)) stack
      ∙ ap (λ (ms : List Move). On (world_in l mid) (classes_in l old) (freed_in l script old) ms) left in
      subst (λ (t : Text). IsEvent l steps script new (Some e) (made (world_in l old) (classes_in l old) t (freed_in l script old) rest)) text
      (subst (IsEvent l steps script new (Some e)) (ap (λ (p : NamedWorld × Shown). (On p.0 (classes_in l old) (freed_in l script old) rest, Some (event.Make p.1))) (sym x.made.shown)) (record {
        left = record { state = at; running = λ y. turned_runs l (steps + 1) mid new None mid.next done made_runs };
        shown = ap (λ (y : Event). Some y) x.is;
      }))

-- ---- a class that is kept

-- a number past the table is that of no class
kept_named : (p : Program) (u : ℕ) (us : Text) (ns : List ℕ) → list_any (has_descriptor p (u ∷ us)) ns ≡ list_any (λ (n : ℕ). text_eq (type_at p n) (u ∷ us)) ns
kept_named p u us [] = refl
kept_named p u us (n ∷ ns) = λ i. one (nat_lt n (length p.types)) refl i || kept_named p u us ns i
  where
    type_by : Option ℕ → Text
    type_by q = elim q as (λ q. Text) [ Some t ↦ text_at p t | None ↦ [] ]

    past : (xs : List ℕ) (m : ℕ) → (m < length xs → ⊥) → slice_get xs m ≡ None
    past [] m f = refl
    past (x ∷ xs) zero f = absurd (f (omega arith))
    past (x ∷ xs) (suc m) f = past xs m (λ low. f (omega (arith, low)))

    one : (b : Bool) → nat_lt n (length p.types) ≡ b → (b && text_eq (type_at p n) (u ∷ us)) ≡ text_eq (type_at p n) (u ∷ us)
    one true e = refl
    one false e =
        let none : slice_get p.types n ≡ None = past p.types n (λ low. (let no : true ≡ false = sym (lt-ltb n (length p.types) low) ∙ e in cc)) in
        sym (ap (λ (q : Option ℕ). text_eq (type_by q) (u ∷ us)) none)

-- a text that isn't empty
kept_text : (p : Program) (t : Text) (ns : List ℕ) → (t ≡ [] → ⊥) → list_any (has_descriptor p t) ns ≡ list_any (λ (n : ℕ). text_eq (type_at p n) t) ns
kept_text p [] ns some = absurd (some refl)
kept_text p (u ∷ us) ns some = kept_named p u us ns

module _ (l : Lookups) (r : IsRight l) (o : OwnOutside) (class : ℕ) (c : Text) (there : place_named l.program.now c ≡ Some class) where
  abbrev marked : List ℕ → Text → Bool
  marked ns t = not (is_array t) && list_any (has_descriptor l.program.now t) ns

  never_nothing : c ≡ [] → ⊥
  never_nothing none =
      let k = class_of l.program.now c class there in
      let s = sound l.program.now r.well in
      never_empty l.program.now s k.class.name (class_parts l.program.now s class k.class k.is).name (k.text ∙ none)

  marked_bare : (ns : List ℕ) (kind : Kind) → type_text l.types kind ≡ c → marked ns (type_text l.types kind) ≡ list_any (has_descriptor l.program.now c) ns
  marked_bare ns kind text =
      let k = class_of l.program.now c class there in
      let bare : is_array c ≡ false = ap is_array (sym k.text) ∙ class_bare l.program.now r.well class k.class k.is in
      ap (marked ns) text ∙ ap (λ (b : Bool). not b && list_any (has_descriptor l.program.now c) ns) bare

  -- the marks of kept classes say of the class whether it is kept
  kept_named_by : (kind : Kind) → type_text l.types kind ≡ c → marked o.classes (type_text l.types kind) ≡ (outer_of l.program.now o).classes c
  kept_named_by kind text = marked_bare o.classes kind text ∙ kept_text l.program.now c o.classes never_nothing

  abbrev makes : Bool
  makes = (outer_of l.program.now o).classes c || (outer_of l.program.now o).constructed c

  -- it is kept
  pub makes_kept : (kind : Kind) → type_text l.types kind ≡ c → true ≡ marked o.classes (type_text l.types kind) → true ≡ makes
  makes_kept kind text e = ap (λ (b : Bool). b || (outer_of l.program.now o).constructed c) (e ∙ kept_named_by kind text)

  -- it isn't: a constructor of it is kept, or not
  pub makes_constructed : (kind : Kind) (b : Bool) → type_text l.types kind ≡ c → false ≡ marked o.classes (type_text l.types kind) → b ≡ marked (constructed_kinds l.program.now o.methods) (type_text l.types kind) → b ≡ makes
  makes_constructed kind b text e f =
      f ∙ marked_bare (constructed_kinds l.program.now o.methods) kind text
      ∙ constructed_marked l.program.now (sound l.program.now r.well) c o.methods
      ∙ ap (λ (x : Bool). x || (outer_of l.program.now o).constructed c) (e ∙ kept_named_by kind text)

  pub makes_none : false ≡ makes → false ≡ may_make (run_face l) (outer_of l.program.now o) c
  makes_none e = ap (λ (b : Bool). b && is_concrete (run_face l) c) e

  pub makes_concrete : (b : Bool) → true ≡ makes → b ≡ is_concrete (run_face l) c → b ≡ may_make (run_face l) (outer_of l.program.now o) c
  makes_concrete b e f = f ∙ ap (λ (x : Bool). x && is_concrete (run_face l) c) e

-- ---- what a move that makes one does

module _ (s : Setting) (find : Bodies) (w : NamedWorld) (classes : Classes) (c : Text) (waiting stack : List NamedWaiting) (rest : List Move) where
  abbrev makes_by : Bool → Next
  makes_by b = elim b as (λ b. Next) [
    | true ↦ needs s find (need_of s.face classes c) w classes c waiting stack rest (made w classes c stack rest)
    | false ↦ quiet Ended
  ]

  pub make_legal : true ≡ may_make s.face s.outer c → needs s find (need_of s.face classes c) w classes c waiting stack rest (made w classes c stack rest) ≡ make s find w classes c waiting stack rest
  make_legal e = ap makes_by e

  pub make_illegal : false ≡ may_make s.face s.outer c → make s find w classes c waiting stack rest ≡ quiet Ended
  make_illegal e = ap makes_by (sym e)

abbrev concrete_by : Option ℕ → Bool
concrete_by o = elim o as (λ o. Bool) [ Some n ↦ not (is_interface n) && not (is_abstract n) | None ↦ false ]

abbrev flags_by : Program → Option ℕ → Option ℕ
flags_by p o = option_map (λ (k : Class). k.flags.0) (option_and_then (slice_get p.classes) o)

-- what the program doesn't define isn't made
pub makes_unfound : (l : Lookups) → IsRight l → (o : OwnOutside) (c : Text) → place_named l.program.now c ≡ None → false ≡ may_make (run_face l) (outer_of l.program.now o) c
makes_unfound l r o c e =
    let none : is_concrete (run_face l) c ≡ false = ap concrete_by ((right_face l r).flags c ∙ ap (flags_by l.program.now) e) in
    let kept = (outer_of l.program.now o).classes c || (outer_of l.program.now o).constructed c in
    sym (ap (λ (b : Bool). kept && b) none ∙ and_false kept)
  where
    and_false : (b : Bool) → (b && false) ≡ false
    and_false true = refl
    and_false false = refl
