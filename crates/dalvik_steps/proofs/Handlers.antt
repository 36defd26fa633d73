-- The handlers of a frame's regions, by numbers and by names.
use Rattle.std.proofs.Common.{◌≡◌, ℕ, zero, suc, ◌+◌, ◌<◌, Bool, true, false, List, [], ◌∷◌, length, map, drop, get_or, arith, ap, refl, sym, subst, ◌∙◌, ltb-true}
use Rattle.std.specs.Prelude.{◌&&◌, ◌-◌, not, Option, Some, None, cond, find, nat_le, nat_lt, slice_get}
use Rattle.std.specs.List.{list_all, enumerate_from}
use Rattle.std.specs.Option.{option_and_then, option_map}
use Rattle.std.proofs.lemmas.List.{at_drop_more}
use Rattle.class_defs.proofs.WellFormed.{all_at, and_left, and_right, sound}
use Rattle.program_model.specs.BodyRules.{body_fits, ends, follows, insn_fits}
use Rattle.program_model.specs.Distinct.{all_differ, own_method_key}
use Rattle.program_model.specs.LineRules.{lines_fit}
use Rattle.program_model.specs.MemberRules.{class_fits, class_of_method, code_fits, fields_fit, frame_fits, is_class_number, lacks_code, method_fits, methods_fit, methods_in_order, source_fits, types_of_class_fit}
use Rattle.program_model.specs.Neighbours.{neighbours}
use Rattle.program_model.specs.RegionRules.{are_apart, catches, handler_fits, may_begin, region_fits, regions_fit, rest_fits}
use Rattle.program_model.specs.Texts.{has_type}
use Rattle.program_model.specs.ValueRules.{marks_fit}
use Rattle.program_model.specs.declared.body.Body.{Body}
use Rattle.program_model.specs.declared.body.Handler.{Handler}
use Rattle.program_model.specs.declared.body.Region.{Region}
use Rattle.program_model.specs.declared.program.Class.{Class}
use Rattle.program_model.specs.declared.program.Method.{Method}
use Rattle.program_model.specs.declared.program.Program.{Program}
use Rattle.insn_set.specs.declared.form.Insn.{Insn}
use Rattle.dalvik_defs.specs.Names.{Text}
use Rattle.dalvik_defs.specs.Naming.{body_of, handler_of, region_of, type_at}
use Rattle.dalvik_defs.specs.Stack.{covers, handler_at, handler_in}
use Rattle.dalvik_defs.specs.declared.program.NamedHandler.{NamedHandler}
use Rattle.dalvik_lookups.specs.Tables.{IsRight}
use Rattle.dalvik_lookups.specs.Views.{IsNamed, IsType}
use Rattle.dalvik_lookups.specs.declared.lookups.Lookups.{Lookups}
use Rattle.dalvik_lookups.specs.declared.types.Kind.{Kind}
use Rattle.dalvik_state.specs.States.{IsSoundFrame}
use Rattle.dalvik_state.specs.declared.frame.Frame.{Frame}
use Rattle.dalvik_steps.specs.Flights.{covers_in, AreHandlers}
use Rattle.dalvik_steps.proofs.Looked.{item_at}

-- ---- what is found

found_passes : {X : Type 0} (t q : X → Bool) (xs : List X) (x : X) → find t xs ≡ Some x → list_all q xs ≡ true → q x ≡ true
found_passes t q [] x e h = absurd (cc)
found_passes t q (y ∷ ys) x e h = by (found_passes t q ys x) (t y) e
  where
    by : (find t ys ≡ Some x → list_all q ys ≡ true → q x ≡ true) → (b : Bool) → cond b (Some y) (find t ys) ≡ Some x → q x ≡ true
    by more true g = let same : y ≡ x = cc in ap q (sym same) ∙ and_left (q y) (list_all q ys) h
    by more false g = more g (and_right (q y) (list_all q ys) h)

find_mapped : {X Y : Type 0} (f : X → Y) (t : Y → Bool) (xs : List X) → find t (map f xs) ≡ option_map f (find (λ x. t (f x)) xs)
find_mapped f t [] = refl
find_mapped f t (x ∷ xs) = by (find_mapped f t xs) (t (f x))
  where
    by : find t (map f xs) ≡ option_map f (find (λ x. t (f x)) xs) → (b : Bool) → cond b (Some (f x)) (find t (map f xs)) ≡ option_map f (cond b (Some x) (find (λ x. t (f x)) xs))
    by h true = refl
    by h false = h

-- ---- the region of a position

pub lands_region : (p : Program) (above : Text → Bool) (at : ℕ) (b : Body) (r : Region) → find (covers_in at) b.regions ≡ Some r → handler_at above at (body_of p b) ≡ handler_in above (region_of p r)
lands_region p above at b r e = ap (option_and_then (handler_in above)) (find_mapped (region_of p) (covers at) b.regions ∙ ap (option_map (region_of p)) e)

pub lands_outside : (p : Program) (above : Text → Bool) (at : ℕ) (b : Body) → find (covers_in at) b.regions ≡ None → handler_at above at (body_of p b) ≡ None
lands_outside p above at b e = ap (option_and_then (handler_in above)) (find_mapped (region_of p) (covers at) b.regions ∙ ap (option_map (region_of p)) e)

-- ---- the handlers of a region

pub item_same : (xs : List Handler) (i : ℕ) (d : Handler) → i < length xs → get_or xs i d ≡ get_or xs i (get_or xs i d)
item_same [] i d low = absurd (omega arith)
item_same (x ∷ xs) zero d low = refl
item_same (x ∷ xs) (suc i) d low = item_same xs i d (omega arith)

abbrev above_in : (Text → Bool) → NamedHandler → Bool
above_in above h = above h.kind

-- the type of a handler
pub handler_type : (l : Lookups) → IsRight l → (r : Region) (xs : List Handler) (i : ℕ) (x : Handler) (k : Kind) → AreHandlers l r → xs ≡ r.handlers → i < length xs → x ≡ get_or xs i x
    → (IsNamed l → x.kind < length l.program.now.types → IsType l.types k (type_at l.program.now x.kind)) → IsType l.types k (type_at l.program.now x.kind)
handler_type l right r xs i x k h e low is kind = kind right.tabled.named (h.at i x (item_at r.handlers xs i x e is low))

one_less : (p : Program) (above : Text → Bool) (r : Region) (xs : List Handler) (i : ℕ) (x : Handler) (b : Bool) → xs ≡ r.handlers → i < length xs → x ≡ get_or xs i x → above (type_at p x.kind) ≡ b
    → find (above_in above) (map (handler_of p) (drop i r.handlers)) ≡ cond b (Some (handler_of p x)) (find (above_in above) (map (handler_of p) (drop (i + 1) r.handlers)))
one_less p above r xs i x b e low is t =
    subst (λ (ys : List Handler). find (above_in above) (map (handler_of p) (drop i ys)) ≡ cond b (Some (handler_of p x)) (find (above_in above) (map (handler_of p) (drop (i + 1) ys)))) e
    (at_drop_more (λ (ys : List Handler). find (above_in above) (map (handler_of p) ys)) xs i x low
    ∙ ap (λ (y : Handler). find (above_in above) (map (handler_of p) (y ∷ drop (i + 1) xs))) (sym is)
    ∙ ap (λ (c : Bool). cond c (Some (handler_of p x)) (find (above_in above) (map (handler_of p) (drop (i + 1) xs)))) t)

-- it goes on past a handler
pub handler_past : (p : Program) (above : Text → Bool) (r : Region) (xs : List Handler) (i : ℕ) (x : Handler) → xs ≡ r.handlers → i < length xs → x ≡ get_or xs i x → above (type_at p x.kind) ≡ false
    → find (above_in above) (map (handler_of p) (drop (i + 1) r.handlers)) ≡ find (above_in above) (map (handler_of p) (drop i r.handlers))
handler_past p above r xs i x e low is t = sym (one_less p above r xs i x false e low is t)

-- it is found
pub handler_found : (p : Program) (above : Text → Bool) (r : Region) (xs : List Handler) (i : ℕ) (x : Handler) → xs ≡ r.handlers → i < length xs → x ≡ get_or xs i x → above (type_at p x.kind) ≡ true
    → find (above_in above) (map (handler_of p) (drop i r.handlers)) ≡ find (above_in above) (map (handler_of p) r.handlers) → Some x.position ≡ handler_in above (region_of p r)
handler_found p above r xs i x e low is t same =
    ap (λ (o : Option NamedHandler). elim o as (λ o. Option ℕ) [ Some h ↦ Some h.position | None ↦ r.rest ]) (sym (one_less p above r xs i x true e low is t) ∙ same)

-- ---- the handlers of a well-formed program

region_handlers : (p : Program) (insns : List Insn) (r : Region) → region_fits p insns r ≡ true → list_all (handler_fits p insns) r.handlers ≡ true
region_handlers p insns r h =
    let rest = and_right (nat_lt r.first r.end && nat_le r.end (length insns)) (catches r && (list_all (handler_fits p insns) r.handlers && rest_fits insns r.rest)) h in
    and_left (list_all (handler_fits p insns) r.handlers) (rest_fits insns r.rest) (and_right (catches r) (list_all (handler_fits p insns) r.handlers && rest_fits insns r.rest) rest)

body_regions : (p : Program) (b : Body) → body_fits p b ≡ true → list_all (region_fits p b.insns) b.regions ≡ true
unfolding body_fits regions_fit
body_regions p b h =
    let rest = and_right (may_begin (slice_get b.insns 0) && ends (slice_get b.insns (length b.insns - 1))) (list_all follows (neighbours b.insns) && (list_all (insn_fits p b) (enumerate_from 0 b.insns) && regions_fit p b.insns b.regions)) h in
    let regions = and_right (list_all (insn_fits p b) (enumerate_from 0 b.insns)) (regions_fit p b.insns b.regions) (and_right (list_all follows (neighbours b.insns)) (list_all (insn_fits p b) (enumerate_from 0 b.insns) && regions_fit p b.insns b.regions) rest) in
    and_left (list_all (region_fits p b.insns) b.regions) (list_all are_apart (neighbours b.regions)) regions

method_code : (p : Program) (class : ℕ) (m : Method) → method_fits p class m ≡ true → code_fits p m m.body ≡ true
unfolding method_fits
method_code p class m h =
    and_right (is_class_number (class_of_method (slice_get p.methods m.name)) class) (code_fits p m m.body)
    (and_left (is_class_number (class_of_method (slice_get p.methods m.name)) class && code_fits p m m.body) (marks_fit p m.marks && list_all (marks_fit p) m.parameter_marks) h)

code_body : (p : Program) (m : Method) (b : Body) → code_fits p m (Some b) ≡ true → body_fits p b ≡ true
code_body p m b h =
    let rest = and_right (not (lacks_code m.flags)) (frame_fits p m b && (body_fits p b && lines_fit (length b.insns) m.lines)) h in
    and_left (body_fits p b) (lines_fit (length b.insns) m.lines) (and_right (frame_fits p m b) (body_fits p b && lines_fit (length b.insns) m.lines) rest)

class_methods : (p : Program) (c : Class) → class_fits p c ≡ true → list_all (method_fits p c.name) c.methods ≡ true
unfolding class_fits methods_fit
class_methods p c h =
    let two = and_right (types_of_class_fit p c && (source_fits p c.source && marks_fit p c.marks)) (fields_fit p c.name c.fields && methods_fit p c.name c.methods) h in
    and_left (list_all (method_fits p c.name) c.methods) (list_all (methods_in_order p) (neighbours c.methods) && all_differ own_method_key c.methods) (and_right (fields_fit p c.name c.fields) (methods_fit p c.name c.methods) two)

frame_body : (l : Lookups) → IsRight l → (size : ℕ) (f : Frame) → IsSoundFrame l size f → body_fits l.program.now f.body.now ≡ true
frame_body l r size f h =
    let p = l.program.now in
    let there : slice_get h.class.methods f.at.place ≡ Some h.own = sym (ap (option_and_then (λ (c : Class). slice_get c.methods f.at.place)) h.within) ∙ h.found in
    let class = all_at (class_fits p) p.classes f.at.class h.class (sound p r.well).classes_fit h.within in
    let method = all_at (method_fits p h.class.name) h.class.methods f.at.place h.own (class_methods p h.class class) there in
    code_body p h.own f.body.now (sym (ap (code_fits p h.own) h.body) ∙ method_code p h.class.name h.own method)

-- the handlers of the region that covers the position of a frame
pub frame_handlers : (l : Lookups) → IsRight l → (size : ℕ) (f : Frame) (t : Region → Bool) (r : Region) → IsSoundFrame l size f → find t f.body.now.regions ≡ Some r → AreHandlers l r
frame_handlers l right size f t r h e =
    let p = l.program.now in
    let insns = f.body.now.insns in
    let fits = region_handlers p insns r (found_passes t (region_fits p insns) f.body.now.regions r e (body_regions p f.body.now (frame_body l right size f h))) in
    record { at = λ i x got. ltb-true x.kind (length p.types) (and_left (has_type p x.kind) (may_begin (slice_get insns x.position)) (all_at (handler_fits p insns) r.handlers i x fits got)) }
