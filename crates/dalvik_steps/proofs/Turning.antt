-- Classes that are initialised, by numbers and by names.
use Rattle.std.proofs.Common.{◌≡◌, ℕ, zero, suc, ◌+◌, ◌-◌, ◌<◌, ◌≤◌, Bool, true, false, true≢false, List, [], ◌∷◌, ◌++◌, length, map, take, drop, arith, ap, refl, sym, subst, ◌∙◌, append_assoc}
use Rattle.std.specs.Prelude.{◌^◌, Option, Some, None, cond, position, slice_get, slice_index_or, slice_set, nat_eq}
use Rattle.std.specs.List.{list_all}
use Rattle.std.specs.Option.{option_map}
use Rattle.program_model.specs.declared.program.Class.{Class}
use Rattle.program_model.specs.declared.program.Program.{Program}
use Rattle.class_defs.proofs.Positions.{position_step}
use Rattle.name_bridge.proofs.Above.{own_place}
use Rattle.name_bridge.proofs.Classes.{class_parts, type_test}
use Rattle.name_bridge.proofs.Tables.{and_left, and_right, below, entry_at, sound}
use Rattle.dalvik_defs.specs.Face.{Face}
use Rattle.dalvik_defs.specs.Names.{Text, text_eq}
use Rattle.dalvik_defs.specs.Naming.{type_at}
use Rattle.dalvik_defs.specs.Stack.{enters_body, goes_on, left_at, left_of, runs}
use Rattle.dalvik_defs.specs.State.{Classes, World, Status, New, State as NamedState, On}
use Rattle.dalvik_defs.specs.declared.names.MethodKey.{MethodKey}
use Rattle.dalvik_defs.specs.declared.program.NamedBody.{NamedBody}
use Rattle.dalvik_defs.specs.declared.script.Move.{Move}
use Rattle.dalvik_defs.specs.declared.state.Frame.{Frame as NamedFrame}
use Rattle.dalvik_defs.specs.declared.state.Waiting.{Waiting as NamedWaiting}
use Rattle.dalvik_defs.specs.declared.state.Waiting.TheVariants.{Method as InMethod, Initialiser, Ending}
use Rattle.dalvik_lookups.specs.Facing.{is_place, run_face}
use Rattle.dalvik_lookups.specs.Starting.{initialised_first}
use Rattle.dalvik_lookups.specs.Tables.{place_named, IsRight}
use Rattle.dalvik_lookups.specs.declared.lookups.Lookups.{Lookups}
use Rattle.dalvik_lookups.proofs.Facing.{right_face}
use Rattle.dalvik_state.specs.declared.frame.Frame.{Frame}
use Rattle.dalvik_state.specs.declared.state.Status.{Status as OwnStatus}
use Rattle.dalvik_state.specs.declared.state.Status.TheVariants as status
use Rattle.dalvik_state.specs.declared.state.Waiting.{Waiting}
use Rattle.dalvik_state.specs.declared.state.Waiting.TheVariants as waiting
use Rattle.dalvik_state.specs.Runs.{bodies_in}
use Rattle.dalvik_state.specs.States.{class_text, classes_of, stack_of, status_at, status_of, AreClasses, IsSoundWaiting}
use Rattle.dalvik_state.specs.Views.{frame_of, names_in}
use Rattle.dalvik_state.proofs.Running.{one_paced, paced_pushed, pushed_named, sound_pushed, ArePaced, AreSoundWaiting}
use Rattle.dalvik_steps.specs.Turns.{hinders, left_by, left_in, turn_entries, IsTurn}
use Rattle.dalvik_steps.proofs.Taking.{entered_by}

-- ---- the place of a class

position_same : {X : Type 0} (t u : X → Bool) (xs : List X) → ((i : ℕ) (x : X) → slice_get xs i ≡ Some x → t x ≡ u x) → position t xs ≡ position u xs
position_same t u [] h = refl
position_same t u (x ∷ xs) h =
    let more = position_same t u xs (λ j y e. h (suc j) y e) in
    position_step t x xs ∙ (λ i. cond (h 0 x refl i) (Some 0) (option_map suc (more i))) ∙ sym (position_step u x xs)

abbrev pub text_by : Program → Option Class → Text
text_by p o = elim o as (λ o. Text) [ Some d ↦ type_at p d.name | None ↦ [] ]

-- a class is the one of its type
pub own_class : (l : Lookups) → IsRight l → (c : ℕ) → c < length l.program.now.classes → place_named l.program.now (class_text l.program.now c) ≡ Some c
own_class l r c low =
    let p = l.program.now in
    let s = sound p r.well in
    let k = entry_at p.classes c low in
    let own = (class_parts p s c k.0 k.1).name in
    ap (place_named p) (ap (text_by p) k.1)
    ∙ position_same (λ (d : Class). text_eq (type_at p d.name) (type_at p k.0.name)) (λ (d : Class). nat_eq d.name k.0.name) p.classes (λ i d e. type_test p s d.name k.0.name (class_parts p s i d e).name own)
    ∙ own_place p r.resolved.of.once c k.0 k.1

abbrev status_by : List OwnStatus → Option ℕ → Status
status_by statuses o = elim o as (λ o. Status) [ Some c ↦ status_of (status_at statuses c) | None ↦ New ]

pub status_named : (l : Lookups) → IsRight l → (statuses : List OwnStatus) (c : ℕ) → c < length l.program.now.classes → classes_of l.program.now statuses (class_text l.program.now c) ≡ status_of (status_at statuses c)
status_named l r statuses c low = ap (status_by statuses) (own_class l r c low)

-- ---- what is left before a class

classes_rest : (l : Lookups) (c : ℕ) (cs : List ℕ) → AreClasses l (c ∷ cs) → AreClasses l cs
classes_rest l c cs h = record { at = λ i d e. h.at (suc i) d e }

pub classes_drop : (l : Lookups) (n : ℕ) (cs : List ℕ) → AreClasses l cs → AreClasses l (drop n cs)
classes_drop l zero cs h = h
classes_drop l (suc n) [] h = h
classes_drop l (suc n) (c ∷ cs) h = classes_drop l n cs (classes_rest l c cs h)

abbrev pub texts : Lookups → List ℕ → List Text
texts l cs = map (class_text l.program.now) cs

left_step : (l : Lookups) (s : OwnStatus) (here behind : List ℕ) → texts l (left_by s here behind) ≡ left_at (status_of s) (texts l here) (texts l behind)
left_step l status.New here behind = refl
left_step l status.Running here behind = refl
left_step l status.Done here behind = refl
left_step l status.Failed here behind = refl

pub left_named : (l : Lookups) → IsRight l → (statuses : List OwnStatus) (cs : List ℕ) → AreClasses l cs → left_of (classes_of l.program.now statuses) (texts l cs) ≡ texts l (left_in statuses cs)
left_named l r statuses [] h = refl
left_named l r statuses (c ∷ cs) h =
    let more = left_named l r statuses cs (classes_rest l c cs h) in
    let same = status_named l r statuses c (h.at 0 c refl) in
    (λ i. left_at (same i) (texts l (c ∷ cs)) (more i)) ∙ sym (left_step l (status_at statuses c) (c ∷ cs) (left_in statuses cs))

-- what is left is some of them
pub left_classes : (l : Lookups) (statuses : List OwnStatus) (cs : List ℕ) → AreClasses l cs → AreClasses l (left_in statuses cs)
left_classes l statuses [] h = h
left_classes l statuses (c ∷ cs) h = by (status_at statuses c) (left_classes l statuses cs (classes_rest l c cs h))
  where
    by : (s : OwnStatus) → AreClasses l (left_in statuses cs) → AreClasses l (left_by s (c ∷ cs) (left_in statuses cs))
    by status.New more = h
    by status.Running more = more
    by status.Done more = more
    by status.Failed more = h

-- a list that has more
pub record HasMore (n : ℕ) (cs : List ℕ) : Type 0 where
  pub first : ℕ
  pub behind : List ℕ
  pub is : drop n cs ≡ first ∷ behind

pub has_more : (n : ℕ) (cs : List ℕ) → n < length cs → HasMore n cs
has_more n [] h = absurd (omega arith)
has_more zero (c ∷ cs) h = record { first = c; behind = cs; is = refl }
has_more (suc n) (c ∷ cs) h = let m = has_more n cs (omega arith) in record { first = m.first; behind = m.behind; is = m.is }

pub nothing_more : (n : ℕ) (cs : List ℕ) → length cs ≤ n → drop n cs ≡ []
nothing_more zero [] h = refl
nothing_more zero (c ∷ cs) h = absurd (omega arith)
nothing_more (suc n) [] h = refl
nothing_more (suc n) (c ∷ cs) h = nothing_more n cs (omega arith)

-- one place further
pub left_more : (statuses : List OwnStatus) (n : ℕ) (cs : List ℕ) (c : ℕ) → slice_get cs n ≡ Some c → left_in statuses (drop n cs) ≡ left_by (status_at statuses c) (drop n cs) (left_in statuses (drop (suc n) cs))
left_more statuses n [] c e = absurd (cc)
left_more statuses zero (x ∷ xs) c e = let same : x ≡ c = cc in ap (λ (y : ℕ). left_by (status_at statuses y) (x ∷ xs) (left_in statuses xs)) same
left_more statuses (suc n) (x ∷ xs) c e = left_more statuses n xs c e

left_if : (s : OwnStatus) (b : Bool) (here behind : List ℕ) → hinders s ≡ b → left_by s here behind ≡ cond b here behind
left_if status.New b here behind e = ap (λ (x : Bool). cond x here behind) e
left_if status.Running b here behind e = ap (λ (x : Bool). cond x here behind) e
left_if status.Done b here behind e = ap (λ (x : Bool). cond x here behind) e
left_if status.Failed b here behind e = ap (λ (x : Bool). cond x here behind) e

-- by whether the class at a place comes first
pub left_test : (statuses : List OwnStatus) (n : ℕ) (cs : List ℕ) (c : ℕ) (b : Bool) → slice_get cs n ≡ Some c → hinders (status_at statuses c) ≡ b → left_in statuses (drop n cs) ≡ cond b (drop n cs) (left_in statuses (drop (suc n) cs))
left_test statuses n cs c b e h = left_more statuses n cs c e ∙ left_if (status_at statuses c) b (drop n cs) (left_in statuses (drop (suc n) cs)) h

-- ---- what comes before a class

pub first_is : (l : Lookups) → IsRight l → (c : ℕ) → c < length l.program.now.classes → (run_face l).first (class_text l.program.now c) ≡ texts l (initialised_first l.program.now c)
first_is l r c low =
    let p = l.program.now in
    let k = entry_at p.classes c low in
    ap (run_face l).first (ap (text_by p) k.1) ∙ (right_face l r).first c k.0 k.1

places_all : (l : Lookups) (cs : List ℕ) → list_all (is_place l.program.now) cs ≡ true → (i c : ℕ) → slice_get cs i ≡ Some c → c < length l.program.now.classes
places_all l [] h i c e = absurd (cc)
places_all l (x ∷ xs) h zero c e =
    let same : x ≡ c = cc in
    subst (λ (y : ℕ). y < length l.program.now.classes) same (below x (length l.program.now.classes) (and_left (is_place l.program.now x) (list_all (is_place l.program.now) xs) h))
places_all l (x ∷ xs) h (suc i) c e = places_all l xs (and_right (is_place l.program.now x) (list_all (is_place l.program.now) xs) h) i c e

pub first_classes : (l : Lookups) → IsRight l → (c : ℕ) → AreClasses l (initialised_first l.program.now c)
first_classes l r c = record { at = places_all l (initialised_first l.program.now c) ((right_face l r).started c) }

-- ---- the turn of a class

pub turn_stack : (l : Lookups) (below : List Waiting) (class : ℕ) (o : Option Frame) (w : World) (classes : Classes) (size : ℕ) (moves script : List Move) → IsTurn l size class o
    → runs (bodies_in l) w classes (class_text l.program.now class) ((run_face l).initialiser (class_text l.program.now class)) (stack_of (names_in l) moves below) script ≡ On w classes (stack_of (names_in l) moves (below ++ turn_entries class o)) script
turn_stack l below class None w classes size moves script h =
    ap (λ (k : Option MethodKey). runs (bodies_in l) w classes (class_text l.program.now class) k (stack_of (names_in l) moves below) script) h
    ∙ ap (λ (s : List NamedWaiting). On w classes s script) (sym (pushed_named (names_in l) moves below (waiting.Ending class)))
turn_stack l below class (Some f) w classes size moves script h =
    let ended = below ++ waiting.Ending class ∷ [] in
    let entries : below ++ turn_entries class (Some f) ≡ ended ++ waiting.Method f ∷ [] = sym (append_assoc below (waiting.Ending class ∷ []) (waiting.Method f ∷ [])) in
    ap (λ (k : Option MethodKey). runs (bodies_in l) w classes (class_text l.program.now class) k (stack_of (names_in l) moves below) script) h.is
    ∙ ap (λ (b : Option NamedBody). enters_body b w classes h.key [] (Ending (class_text l.program.now class) ∷ stack_of (names_in l) moves below) script) h.found
    ∙ entered_by h.body w classes h.key [] (Ending (class_text l.program.now class) ∷ stack_of (names_in l) moves below) script h.fits
    ∙ ap (λ (g : NamedFrame). On w classes (InMethod g ∷ Ending (class_text l.program.now class) ∷ stack_of (names_in l) moves below) script) (sym h.frame)
    ∙ ap (λ (s : List NamedWaiting). On w classes s script)
    (sym (ap (stack_of (names_in l) moves) entries ∙ pushed_named (names_in l) moves ended (waiting.Method f) ∙ ap (λ (s : List NamedWaiting). InMethod (frame_of (names_in l) f) ∷ s) (pushed_named (names_in l) moves below (waiting.Ending class))))

one_class : (l : Lookups) (class : ℕ) → class < length l.program.now.classes → AreClasses l (class ∷ [])
one_class l class low = record { at = λ i c e. by i c e }
  where
    by : (i c : ℕ) → slice_get (class ∷ []) i ≡ Some c → c < length l.program.now.classes
    by zero c e = let same : class ≡ c = cc in subst (λ (x : ℕ). x < length l.program.now.classes) same low
    by (suc i) c e = absurd (cc)

pub turn_sound : (l : Lookups) (size : ℕ) (below : List Waiting) (class : ℕ) (o : Option Frame) → AreSoundWaiting l size below → class < length l.program.now.classes → IsTurn l size class o → AreSoundWaiting l size (below ++ turn_entries class o)
turn_sound l size below class None s low h = sound_pushed l size below (waiting.Ending class) s (one_class l class low)
turn_sound l size below class (Some f) s low h =
    subst (AreSoundWaiting l size) (append_assoc below (waiting.Ending class ∷ []) (waiting.Method f ∷ []))
    (sound_pushed l size (below ++ waiting.Ending class ∷ []) (waiting.Method f) (sound_pushed l size below (waiting.Ending class) s (one_class l class low)) h.sound)

no_frame : (most : ℕ) (class : ℕ) → ArePaced most (waiting.Ending class ∷ [])
no_frame most class = record { at = λ i f e. by i f e }
  where
    by : (i : ℕ) (f : Frame) → slice_get (waiting.Ending class ∷ []) i ≡ Some (waiting.Method f) → f.position ≤ most
    by zero f e = absurd (cc)
    by (suc i) f e = absurd (cc)

pub turn_paced : (l : Lookups) (size most : ℕ) (below : List Waiting) (class : ℕ) (o : Option Frame) → ArePaced most below → IsTurn l size class o → ArePaced most (below ++ turn_entries class o)
turn_paced l size most below class None s h = paced_pushed most below (waiting.Ending class) s (no_frame most class)
turn_paced l size most below class (Some f) s h =
    let start = h.start in
    subst (ArePaced most) (append_assoc below (waiting.Ending class ∷ []) (waiting.Method f ∷ []))
    (paced_pushed most (below ++ waiting.Ending class ∷ []) (waiting.Method f) (paced_pushed most below (waiting.Ending class) s (no_frame most class)) (one_paced most f (omega (arith, start))))

-- ---- a class that waits

-- what is left, and isn't nothing
pub waits_named : (face : Face) (l : Lookups) (w : World) (classes : Classes) (c : Text) (cs : List ℕ) (first : ℕ) (behind : List ℕ) (stack : List NamedWaiting) (script : List Move) → cs ≡ first ∷ behind
    → goes_on face (bodies_in l) w classes c (texts l cs) stack script ≡ On w classes (Initialiser c (texts l cs) ∷ stack) script
waits_named face l w classes c cs first behind stack script e =
    ap (λ (ds : List ℕ). goes_on face (bodies_in l) w classes c (texts l ds) stack script) e
    ∙ sym (ap (λ (ds : List ℕ). On w classes (Initialiser c (texts l ds) ∷ stack) script) e)

-- ---- how far a class is, and was

pub put_back : (statuses : List OwnStatus) (c : ℕ) (s : OwnStatus) → slice_set (slice_set statuses c s) c (slice_index_or statuses c status.Done) ≡ statuses
put_back [] c s = refl
put_back (x ∷ xs) zero s = refl
put_back (x ∷ xs) (suc c) s = ap (λ (ys : List OwnStatus). x ∷ ys) (put_back xs c s)
