-- What goes up and down the stack is the same for two faces that agree, and keeps to what is live.
use Rattle.std.proofs.Common.{◌≡◌, ℕ, ◌+◌, Bool, true, false, List, [], ◌∷◌, refl, sym, ap, ◌∙◌, subst}
use std.Path.{fun_ext}
use Rattle.std.specs.Prelude.{map, find as seek, not, cond, Option, Some, None, length, nat_eq, slice_get}
use Rattle.std.specs.List.{list_all}
use Rattle.std.specs.Option.{option_map, option_and_then}
use Rattle.dalvik_defs.specs.Names.{Text, text_eq, throwable_type, error_type}
use Rattle.dalvik_defs.specs.Known.{initialiser_error}
use Rattle.dalvik_defs.specs.Face.{Face, Bodies}
use Rattle.dalvik_defs.specs.Outer.{Outer}
use Rattle.dalvik_defs.specs.Shown.{fit_move}
use Rattle.dalvik_defs.specs.State.{World, Classes, Status, New, Running, Done, Failed, State, On, Ended, Next, quiet, next_object, with_thing, fresh, kind_of, put_status}
use Rattle.dalvik_defs.specs.declared.state.Value.{Value}
use Rattle.dalvik_defs.specs.declared.state.Frame.{Frame}
use Rattle.dalvik_defs.specs.declared.state.Waiting.{Waiting}
use Rattle.dalvik_defs.specs.declared.state.Waiting.TheVariants.{Method, Initialiser, Ending, Outside}
use Rattle.dalvik_defs.specs.Effect.{go}
use Rattle.dalvik_defs.specs.Show.{show, show_option}
use Rattle.dalvik_defs.specs.Stack.{enters_body, enters, form_at, receives, back, gives, handler_at, lands, wrapped, lands_or, entry_frame, unwinds, throws_new, left_at, left_of, runs, goes_on, starts, resumes, ends, covers, handler_in}
use Rattle.dalvik_defs.specs.declared.names.MethodKey.{MethodKey}
use Rattle.dalvik_defs.specs.declared.forms.Form.{Form}
use Rattle.dalvik_defs.specs.declared.forms.Form.TheVariants as form
use Rattle.dalvik_defs.specs.declared.script.Move.{Move}
use Rattle.dalvik_defs.specs.declared.program.NamedBody.{NamedBody}
use Rattle.dalvik_defs.specs.declared.program.NamedProgram.{NamedProgram}
use Rattle.dalvik_defs.specs.declared.program.NamedHandler.{NamedHandler}
use Rattle.dalvik_defs.specs.declared.program.NamedRegion.{NamedRegion}
use Rattle.pass_defs.specs.Bare.{may_throw, continues}
use Rattle.pass_defs.specs.Walks.{onward, listed, handlers_of, handlers_at}
use Rattle.removal_law.specs.Left.{In, here}
use Rattle.removal_law.specs.Agree.{Each, sieve, CalmDone, Agree}
use Rattle.dalvik_defs.proofs.Calm.{text_sound}
use Rattle.removal_law.proofs.Lists.{clash, and_behind, in_front, in_back, in_map, found_in}
use Rattle.removal_law.proofs.Worlds.{show_heap, option_heap, item_method, item_position}
use Rattle.removal_law.proofs.Acts.{Sound, sound_heap, sound_with, kind_ok, goes_next}

module _ (ok made : Text → Type 0) (live : MethodKey → Type 0) (says : MethodKey → Form → Type 0) (stands : MethodKey → ℕ → Type 0) (calm : Text → Bool) (p : NamedProgram) (o : Outer) (F G : Face) (find other : Bodies)
    (agree : Agree ok made live says stands calm p o F G find other) where
  abbrev Fine : World → Type 0
  Fine = Sound ok made live says stands calm p o F G find other agree

  fine_heap : (w v : World) → v.heap ≡ w.heap → Fine w → Fine v
  fine_heap = sound_heap ok made live says stands calm p o F G find other agree

  fine_with : (w : World) (t : Text) → Fine w → ok t × made t → Fine (with_thing w (fresh t))
  fine_with w t = sound_with ok made live says stands calm p o F G find other agree w (fresh t)

  -- ---- states that a run comes to

  abbrev pub OwesOk : Option Text → Type 0
  OwesOk None = Unit {0}
  OwesOk (Some t) = ok t

  abbrev pub PendingOk : Option Move → Type 0
  PendingOk None = Unit {0}
  PendingOk (Some m) = fit_move p o m ≡ true

  -- a class that another one waits for isn't calm
  abbrev pub HeadOk : List Text → Type 0
  HeadOk [] = Unit {0}
  HeadOk (t ∷ ts) = calm t ≡ false

  -- a frame of a live method at a position that a run comes to
  abbrev pub FrameOk : Frame → Type 0
  FrameOk f = live f.method × stands f.method f.position

  -- the form at a frame may throw, and one that waits goes on at the next position
  abbrev pub ThrowsAt : Frame → Type 0
  ThrowsAt f = (x : Form) × ((form_at find f ≡ Some x) × (may_throw x ≡ true))

  abbrev pub WaitsAt : Frame → Type 0
  WaitsAt f = (x : Form) × ((form_at find f ≡ Some x) × ((continues x ≡ true) × (may_throw x ≡ true)))

  -- a stack below something
  abbrev pub WaitOk : List Waiting → Type 0
  WaitOk [] = Unit {0}
  WaitOk (Method f ∷ r) = (FrameOk f × WaitsAt f) × WaitOk r
  WaitOk (Initialiser c above ∷ r) = (ok c × (calm c ≡ false)) × ((Each ok above × HeadOk above) × WaitOk r)
  WaitOk (Ending c ∷ r) = (calm c ≡ false) × WaitOk r
  WaitOk (Outside owes pending ∷ r) = (OwesOk owes × PendingOk pending) × WaitOk r

  abbrev pub StackOk : List Waiting → Type 0
  StackOk [] = Unit {0}
  StackOk (Method f ∷ r) = FrameOk f × WaitOk r
  StackOk (Initialiser c above ∷ r) = WaitOk (Initialiser c above ∷ r)
  StackOk (Ending c ∷ r) = WaitOk (Ending c ∷ r)
  StackOk (Outside owes pending ∷ r) = WaitOk (Outside owes pending ∷ r)

  pub top_ok : (stack : List Waiting) → WaitOk stack → StackOk stack
  top_ok [] s = tt
  top_ok (Method f ∷ r) s = (s.0.0, s.1)
  top_ok (Initialiser c above ∷ r) s = s
  top_ok (Ending c ∷ r) s = s
  top_ok (Outside owes pending ∷ r) s = s

  -- the calm classes are done, and the script fits
  abbrev pub Fits : Classes → List Move → Type 0
  Fits c script = CalmDone calm c × (list_all (fit_move p o) script ≡ true)

  abbrev pub StateOk : State → Type 0
  StateOk Ended = Unit {0}
  StateOk (On w c stack script) = Fine w × (StackOk stack × Fits c script)

  -- the same, in which no calm class is waited for
  abbrev pub sifted : List Waiting → List Waiting
  sifted [] = []
  sifted (Method f ∷ r) = Method f ∷ sifted r
  sifted (Initialiser c above ∷ r) = Initialiser c (sieve calm above) ∷ sifted r
  sifted (Ending c ∷ r) = Ending c ∷ sifted r
  sifted (Outside owes pending ∷ r) = Outside owes pending ∷ sifted r

  abbrev pub sift : State → State
  sift Ended = Ended
  sift (On w c stack script) = On w c (sifted stack) script

  -- Of two steps' ends the second is the first, in which no calm class is waited for; and the first keeps to what is live.
  pub record Good (x y : Next) : Type 0 where
    pub same : (sift x.0, x.1) ≡ y
    pub good : StateOk x.0

  pub record GoodState (x y : State) : Type 0 where
    pub same : sift x ≡ y
    pub good : StateOk x

  pub good_one : (x : Next) → StateOk x.0 → Good x (sift x.0, x.1)
  good_one x h = record { same = refl; good = h }

  pub good_quiet : (x y : State) → GoodState x y → Good (quiet x) (quiet y)
  good_quiet x y h = record { same = ap quiet h.same; good = h.good }

  state_one : (x : State) → StateOk x → GoodState x (sift x)
  state_one x h = record { same = refl; good = h }

  -- a status of a class that isn't calm changes nothing of that
  pub put_done : (c : Classes) (t : Text) (x : Status) → calm t ≡ false → CalmDone calm c → CalmDone calm (put_status t x c)
  put_done c t x n h u e = by (text_eq u t) refl
    where
      by : (b : Bool) → text_eq u t ≡ b → (elim b as (λ b. Status) [ true ↦ x | false ↦ c u ]) ≡ Done
      by true i = clash (calm t) (sym (ap calm (text_sound u t i)) ∙ e) n
      by false i = h u e

  -- ---- entries

  body_enters : (w : World) (c : Classes) (k : MethodKey) (vs : List Value) (stack : List Waiting) (script : List Move) (b : Option NamedBody) → find k ≡ b → Fine w → live k → WaitOk stack → Fits c script
      → StateOk (enters_body b w c k vs stack script)
  body_enters w c k vs stack script (Some b) e h l s m = by (nat_eq (length vs) b.ins)
    where
      by : (x : Bool) → StateOk (elim x as (λ x. State) [ true ↦ On w c (Method (entry_frame k vs b) ∷ stack) script | false ↦ Ended ])
      by true = (h, (((l, agree.entry k b l e), s), m))
      by false = tt
  body_enters w c k vs stack script None e h l s m = tt

  body_sifted : (b : Option NamedBody) (w : World) (c : Classes) (k : MethodKey) (vs : List Value) (stack : List Waiting) (script : List Move)
      → sift (enters_body b w c k vs stack script) ≡ enters_body b w c k vs (sifted stack) script
  body_sifted (Some b) w c k vs stack script = by (nat_eq (length vs) b.ins)
    where
      by : (x : Bool) → sift (elim x as (λ x. State) [ true ↦ On w c (Method (entry_frame k vs b) ∷ stack) script | false ↦ Ended ])
          ≡ elim x as (λ x. State) [ true ↦ On w c (Method (entry_frame k vs b) ∷ sifted stack) script | false ↦ Ended ]
      by true = refl
      by false = refl
  body_sifted None w c k vs stack script = refl

  pub entering : (w : World) (c : Classes) (k : MethodKey) (vs : List Value) (stack : List Waiting) (script : List Move)
      → Fine w → live k → WaitOk stack → Fits c script → GoodState (enters find w c k vs stack script) (enters other w c k vs (sifted stack) script)
  entering w c k vs stack script h l s m = record {
    same = body_sifted (find k) w c k vs stack script ∙ ap (λ b. enters_body b w c k vs (sifted stack) script) (agree.bodies k l);
    good = body_enters w c k vs stack script (find k) refl h l s m;
  }

  -- ---- results

  receive_method : (x : Option Form) (f : Frame) (v : Value) → (receives x f v).method ≡ f.method
  receive_method None f v = refl
  receive_method (Some (form.InstanceGet item to on field)) f v = item_method f item to v
  receive_method (Some (form.StaticGet item to field)) f v = item_method f item to v
  receive_method (Some form.Nop) f v = refl
  receive_method (Some (form.Move slot to from)) f v = refl
  receive_method (Some (form.MoveResult slot to)) f v = refl
  receive_method (Some (form.MoveException to)) f v = refl
  receive_method (Some form.ReturnVoid) f v = refl
  receive_method (Some (form.Return slot from)) f v = refl
  receive_method (Some (form.Const to value)) f v = refl
  receive_method (Some (form.ConstWide to value)) f v = refl
  receive_method (Some (form.ConstString to text)) f v = refl
  receive_method (Some (form.ConstClass to kind)) f v = refl
  receive_method (Some (form.MonitorEnter on)) f v = refl
  receive_method (Some (form.MonitorExit on)) f v = refl
  receive_method (Some (form.CheckCast on kind)) f v = refl
  receive_method (Some (form.InstanceOf to from kind)) f v = refl
  receive_method (Some (form.ArrayLength to from)) f v = refl
  receive_method (Some (form.NewInstance to kind)) f v = refl
  receive_method (Some (form.NewArray to size kind)) f v = refl
  receive_method (Some (form.FilledNewArray kind args)) f v = refl
  receive_method (Some (form.FillArray on width items)) f v = refl
  receive_method (Some (form.Throw on)) f v = refl
  receive_method (Some (form.Goto target)) f v = refl
  receive_method (Some (form.PackedSwitch on first targets)) f v = refl
  receive_method (Some (form.SparseSwitch on keys targets)) f v = refl
  receive_method (Some (form.Cmp op to a b)) f v = refl
  receive_method (Some (form.If test a b target)) f v = refl
  receive_method (Some (form.IfZero test a target)) f v = refl
  receive_method (Some (form.ArrayGet item to array index)) f v = refl
  receive_method (Some (form.ArrayPut item from array index)) f v = refl
  receive_method (Some (form.InstancePut item from on field)) f v = refl
  receive_method (Some (form.StaticPut item from field)) f v = refl
  receive_method (Some (form.Invoke kind method args)) f v = refl
  receive_method (Some (form.Unary op to from)) f v = refl
  receive_method (Some (form.Binary op to a b)) f v = refl
  receive_method (Some (form.Literal op to a value)) f v = refl

  receive_position : (x : Option Form) (f : Frame) (v : Value) → (receives x f v).position ≡ f.position + 1
  receive_position None f v = refl
  receive_position (Some (form.InstanceGet item to on field)) f v = item_position f item to v
  receive_position (Some (form.StaticGet item to field)) f v = item_position f item to v
  receive_position (Some form.Nop) f v = refl
  receive_position (Some (form.Move slot to from)) f v = refl
  receive_position (Some (form.MoveResult slot to)) f v = refl
  receive_position (Some (form.MoveException to)) f v = refl
  receive_position (Some form.ReturnVoid) f v = refl
  receive_position (Some (form.Return slot from)) f v = refl
  receive_position (Some (form.Const to value)) f v = refl
  receive_position (Some (form.ConstWide to value)) f v = refl
  receive_position (Some (form.ConstString to text)) f v = refl
  receive_position (Some (form.ConstClass to kind)) f v = refl
  receive_position (Some (form.MonitorEnter on)) f v = refl
  receive_position (Some (form.MonitorExit on)) f v = refl
  receive_position (Some (form.CheckCast on kind)) f v = refl
  receive_position (Some (form.InstanceOf to from kind)) f v = refl
  receive_position (Some (form.ArrayLength to from)) f v = refl
  receive_position (Some (form.NewInstance to kind)) f v = refl
  receive_position (Some (form.NewArray to size kind)) f v = refl
  receive_position (Some (form.FilledNewArray kind args)) f v = refl
  receive_position (Some (form.FillArray on width items)) f v = refl
  receive_position (Some (form.Throw on)) f v = refl
  receive_position (Some (form.Goto target)) f v = refl
  receive_position (Some (form.PackedSwitch on first targets)) f v = refl
  receive_position (Some (form.SparseSwitch on keys targets)) f v = refl
  receive_position (Some (form.Cmp op to a b)) f v = refl
  receive_position (Some (form.If test a b target)) f v = refl
  receive_position (Some (form.IfZero test a target)) f v = refl
  receive_position (Some (form.ArrayGet item to array index)) f v = refl
  receive_position (Some (form.ArrayPut item from array index)) f v = refl
  receive_position (Some (form.InstancePut item from on field)) f v = refl
  receive_position (Some (form.StaticPut item from field)) f v = refl
  receive_position (Some (form.Invoke kind method args)) f v = refl
  receive_position (Some (form.Unary op to from)) f v = refl
  receive_position (Some (form.Binary op to a b)) f v = refl
  receive_position (Some (form.Literal op to a value)) f v = refl

  back_method : (f : Frame) (v : Option Value) → (back find f v).method ≡ f.method
  back_method f None = refl
  back_method f (Some v) = receive_method (form_at find f) f v

  back_position : (f : Frame) (v : Option Value) → (back find f v).position ≡ f.position + 1
  back_position f None = refl
  back_position f (Some v) = receive_position (form_at find f) f v

  -- the body and the form at a frame
  here_in : (f : Frame) (x : Form) → form_at find f ≡ Some x → (b : NamedBody) × ((find f.method ≡ Some b) × (slice_get b.forms f.position ≡ Some x))
  here_in f x e = by (find f.method) refl e
    where
      by : (o : Option NamedBody) → find f.method ≡ o → option_and_then (λ b. slice_get b.forms f.position) o ≡ Some x → (b : NamedBody) × ((find f.method ≡ Some b) × (slice_get b.forms f.position ≡ Some x))
      by (Some b) i j = (b, (i, j))
      by None i j = clash true refl (ap (λ o. elim o as (λ o. Bool) [ Some z ↦ false | None ↦ true ]) j)

  pub onward_ok : (f : Frame) (x : Form) (g : Frame) → FrameOk f → form_at find f ≡ Some x → g.method ≡ f.method → In g.position (onward x f.position) → FrameOk g
  onward_ok f x g l e i j = let b = here_in f x e in
      subst (λ k. live k × stands k g.position) (sym i) (l.0, agree.onwards f.method b.0 f.position g.position x l.0 b.1.0 l.1 b.1.1 j)

  back_ok : (f : Frame) (v : Option Value) → FrameOk f → WaitsAt f → FrameOk (back find f v)
  back_ok f v l y = onward_ok f y.0 (back find f v) l y.1.0 (back_method f v)
      (subst (λ n. In n (onward y.0 f.position)) (sym (back_position f v)) (goes_next ok made live says stands calm p o F G find other agree y.0 f.position y.1.1.0))

  back_same : (f : Frame) (v : Option Value) → live f.method → back find f v ≡ back other f v
  back_same f None l = refl
  back_same f (Some v) l = ap (λ b. receives (option_and_then (λ x. slice_get x.forms f.position) b) f v) (agree.bodies f.method l)

  pub giving : (kind : Text) (w : World) (c : Classes) (v : Option Value) (stack : List Waiting) (script : List Move)
      → Fine w → WaitOk stack → Fits c script → Good (gives find kind w c v stack script) (gives other kind w c v (sifted stack) script)
  giving kind w c v [] script h s m = good_one (quiet Ended) tt
  giving kind w c v (Method f ∷ rest) script h s m = record {
    same = ap (λ g. quiet (On w c (Method g ∷ sifted rest) script)) (back_same f v s.0.0.0);
    good = (h, ((back_ok f v s.0.0 s.0.1, s.1), m));
  }
  giving kind w c v (Initialiser t above ∷ rest) script h s m = good_one (quiet Ended) tt
  giving kind w c v (Ending t ∷ rest) script h s m = good_one (quiet (On w c (Ending t ∷ rest) script)) (h, (s, m))
  giving kind w c v (Outside owes pending ∷ rest) script h s m = good_one (gives find kind w c v (Outside owes pending ∷ rest) script)
      (fine_heap w (show_option w kind v).0 (option_heap w kind v) h, (s, m))

  -- ---- thrown objects

  lands_same : (w : World) (f : Frame) (v : Value) → Fine w → live f.method → lands F find w f v ≡ lands G other w f v
  lands_same w f v h l =
      ap (λ b. option_map (λ at. record (go f at) { caught = v }) (option_and_then (handler_at (F.under (kind_of w v)) f.position) b)) (agree.bodies f.method l)
      ∙ handlers (other f.method)
    where
      above_same : (t : Text) → F.under (kind_of w v) t ≡ G.under (kind_of w v) t
      above_same t = agree.under (kind_of w v) t (kind_ok ok made live says stands calm p o F G find other agree w v h.kinds)

      handlers : (b : Option NamedBody) → option_map (λ at. record (go f at) { caught = v }) (option_and_then (handler_at (F.under (kind_of w v)) f.position) b)
          ≡ option_map (λ at. record (go f at) { caught = v }) (option_and_then (handler_at (G.under (kind_of w v)) f.position) b)
      handlers b = ap (λ a. option_map (λ at. record (go f at) { caught = v }) (option_and_then (handler_at a f.position) b)) (fun_ext above_same)

  wrap_cases : (w : World) (v : Value) (b : Bool) → Fine w → Fine (elim b as (λ b. World × Value) [ true ↦ (w, v) | false ↦ (with_thing w (fresh initialiser_error), next_object w) ]).0
  wrap_cases w v true h = h
  wrap_cases w v false h = fine_with w initialiser_error h (agree.known initialiser_error refl)

  wrap_fine : (w : World) (v : Value) → Fine w → Fine (wrapped F w v).0
  wrap_fine w v h = wrap_cases w v (F.under (kind_of w v) error_type) h

  wrap_same : (w : World) (v : Value) → Fine w → wrapped F w v ≡ wrapped G w v
  wrap_same w v h = ap (λ b. elim b as (λ b. World × Value) [ true ↦ (w, v) | false ↦ (with_thing w (fresh initialiser_error), next_object w) ])
      (agree.under (kind_of w v) error_type (kind_ok ok made live says stands calm p o F G find other agree w v h.kinds))

  failed : (c : Classes) (t : Text) (script : List Move) → calm t ≡ false → Fits c script → Fits (put_status t Failed c) script
  failed c t script n m = (put_done c t Failed n m.0, m.1)

  -- a handler of the region that covers the position
  handler_found : (above : Text → Bool) (g : NamedRegion) (t : ℕ) → handler_in above g ≡ Some t → In t (handlers_of (Some g))
  handler_found above g t e = by (seek (λ h. above h.kind) g.handlers) refl e
    where
      last : (o : Option ℕ) → o ≡ Some t → In t (listed o)
      last None i = clash true refl (ap (λ o. elim o as (λ o. Bool) [ Some z ↦ false | None ↦ true ]) i)
      last (Some u) i = subst (λ z. In z (u ∷ [])) (ap (λ o. elim o as (λ o. ℕ) [ Some z ↦ z | None ↦ u ]) i) (here [])

      by : (o : Option NamedHandler) → seek (λ h. above h.kind) g.handlers ≡ o → (elim o as (λ o. Option ℕ) [ Some h ↦ Some h.position | None ↦ g.rest ]) ≡ Some t → In t (handlers_of (Some g))
      by (Some h) i j = in_front t (map (λ h. h.position) g.handlers) (listed g.rest)
          (subst (λ z. In z (map (λ h. h.position) g.handlers)) (ap (λ o. elim o as (λ o. ℕ) [ Some z ↦ z | None ↦ h.position ]) j) (in_map (λ h. h.position) h g.handlers (found_in (λ h. above h.kind) g.handlers h i).is_in))
      by None i j = in_back t (map (λ h. h.position) g.handlers) (listed g.rest) (last g.rest j)

  region_found : (above : Text → Bool) (b : NamedBody) (n t : ℕ) → handler_at above n b ≡ Some t → In t (handlers_at b n)
  region_found above b n t e = by (seek (covers n) b.regions) refl e
    where
      by : (o : Option NamedRegion) → seek (covers n) b.regions ≡ o → option_and_then (handler_in above) o ≡ Some t → In t (handlers_of (seek (covers n) b.regions))
      by (Some g) i j = subst (λ o. In t (handlers_of o)) (sym i) (handler_found above g t j)
      by None i j = clash true refl (ap (λ o. elim o as (λ o. Bool) [ Some z ↦ false | None ↦ true ]) j)

  -- where a frame lands
  land_ok : (above : Text → Bool) (f : Frame) (t : ℕ) → FrameOk f → ThrowsAt f → option_and_then (handler_at above f.position) (find f.method) ≡ Some t → stands f.method t
  land_ok above f t l y e = let b = here_in f y.0 y.1.0 in
      agree.catches f.method b.0 f.position t y.0 l.0 b.1.0 l.1 b.1.1 y.1.1 (region_found above b.0 f.position t (sym (ap (option_and_then (handler_at above f.position)) b.1.0) ∙ e))

  landing : (w : World) (c : Classes) (f : Frame) (rest : List Waiting) (script : List Move) (g : Option ℕ) (v : Value) (x y : Next)
      → Fine w → live f.method → ((t : ℕ) → g ≡ Some t → stands f.method t) → WaitOk rest → Fits c script → Good x y
      → Good (lands_or w c rest script (option_map (λ at. record (go f at) { caught = v }) g) x) (lands_or w c (sifted rest) script (option_map (λ at. record (go f at) { caught = v }) g) y)
  landing w c f rest script None v x y h l k s m g = g
  landing w c f rest script (Some at) v x y h l k s m g = good_one (quiet (On w c (Method (record (go f at) { caught = v }) ∷ rest) script)) (h, (((l, k at refl), s), m))

  -- an object is thrown at a frame, above what waits
  pub throws_at : (w : World) (c : Classes) (v : Value) (f : Frame) (rest : List Waiting) (script : List Move)
      → Fine w → FrameOk f → ThrowsAt f → WaitOk rest → Fits c script → Good (unwinds F find w c v rest script) (unwinds G other w c v (sifted rest) script)
      → Good (unwinds F find w c v (Method f ∷ rest) script) (unwinds G other w c v (Method f ∷ sifted rest) script)
  throws_at w c v f rest script h l y s m g =
      subst (λ x. Good (unwinds F find w c v (Method f ∷ rest) script) (lands_or w c (sifted rest) script x (unwinds G other w c v (sifted rest) script))) (lands_same w f v h l.0)
      (landing w c f rest script (option_and_then (handler_at (F.under (kind_of w v)) f.position) (find f.method)) v (unwinds F find w c v rest script) (unwinds G other w c v (sifted rest) script)
      h l.0 (λ t e. land_ok (F.under (kind_of w v)) f t l y e) s m g)

  pub unwinding : (w : World) (c : Classes) (v : Value) (stack : List Waiting) (script : List Move)
      → Fine w → WaitOk stack → Fits c script → Good (unwinds F find w c v stack script) (unwinds G other w c v (sifted stack) script)
  unwinding w c v [] script h s m = good_one (quiet Ended) tt
  unwinding w c v (Method f ∷ rest) script h s m = throws_at w c v f rest script h s.0.0 (s.0.1.0, (s.0.1.1.0, s.0.1.1.1.1)) s.1 m (unwinding w c v rest script h s.1 m)
  unwinding w c v (Initialiser t above ∷ rest) script h s m = unwinding w (put_status t Failed c) v rest script h s.1.1 (failed c t script s.0.1 m)
  unwinding w c v (Ending t ∷ rest) script h s m =
      subst (λ x. Good (unwinds F find w c v (Ending t ∷ rest) script) (unwinds G other x.0 (put_status t Failed c) x.1 (sifted rest) script)) (wrap_same w v h)
      (unwinding (wrapped F w v).0 (put_status t Failed c) (wrapped F w v).1 rest script (wrap_fine w v h) s.1 (failed c t script s.0 m))
  unwinding w c v (Outside owes pending ∷ rest) script h s m = good_one (unwinds F find w c v (Outside owes pending ∷ rest) script)
      (fine_heap w (show w throwable_type v).0 (show_heap w throwable_type v) h, (((s.0.0, tt), s.1), m))

  pub throwing : (w : World) (c : Classes) (t : Text) (stack : List Waiting) (script : List Move) → ok t × made t
      → Fine w → WaitOk stack → Fits c script → Good (throws_new F find w c t stack script) (throws_new G other w c t (sifted stack) script)
  throwing w c t stack script k h s m = unwinding (with_thing w (fresh t)) c (next_object w) stack script (fine_with w t h k) s m

  -- ---- classes that are initialised

  left_cases : (x : Status) (now behind : List Text) → Each ok now → Each ok behind → Each ok (left_at x now behind)
  left_cases New now behind h k = h
  left_cases Running now behind h k = k
  left_cases Done now behind h k = k
  left_cases Failed now behind h k = h

  pub left_ok : (c : Classes) (ts : List Text) → Each ok ts → Each ok (left_of c ts)
  left_ok c [] h = tt
  left_ok c (t ∷ ts) h = left_cases (c t) (t ∷ ts) (left_of c ts) h (left_ok c ts h.1)

  -- what is left of some classes, and no calm one comes first
  pub left_sieved : (c : Classes) (ts : List Text) → CalmDone calm c → sieve calm (left_of c ts) ≡ left_of c (sieve calm ts)
  left_sieved c [] d = refl
  left_sieved c (t ∷ ts) d = by (calm t) refl (left_sieved c ts d)
    where
      busy : (x : Status) → calm t ≡ false → sieve calm (left_of c ts) ≡ left_of c (sieve calm ts)
          → sieve calm (left_at x (t ∷ ts) (left_of c ts)) ≡ left_at x (t ∷ sieve calm ts) (left_of c (sieve calm ts))
      busy New e h = ap (λ b. cond (not b) (t ∷ sieve calm ts) (sieve calm ts)) e
      busy Running e h = h
      busy Done e h = h
      busy Failed e h = ap (λ b. cond (not b) (t ∷ sieve calm ts) (sieve calm ts)) e

      by : (b : Bool) → calm t ≡ b → sieve calm (left_of c ts) ≡ left_of c (sieve calm ts) → sieve calm (left_of c (t ∷ ts)) ≡ left_of c (sieve calm (t ∷ ts))
      by true e h = ap (λ x. sieve calm (left_at x (t ∷ ts) (left_of c ts))) (d t e) ∙ h ∙ sym (ap (λ b. left_of c (cond (not b) (t ∷ sieve calm ts) (sieve calm ts))) e)
      by false e h = busy (c t) e h ∙ sym (ap (λ b. left_of c (cond (not b) (t ∷ sieve calm ts) (sieve calm ts))) e)

  pub busy_class : (c : Classes) (t : Text) → CalmDone calm c → (c t ≡ Done → ⊥) → calm t ≡ false
  busy_class c t d away = by (calm t) refl
    where
      by : (b : Bool) → calm t ≡ b → calm t ≡ false
      by true e = absurd (away (d t e))
      by false e = e

  abbrev is_done : Status → Bool
  is_done New = false
  is_done Running = false
  is_done Done = true
  is_done Failed = false

  pub not_new : (x : Status) → x ≡ New → x ≡ Done → ⊥
  not_new x e i = clash (is_done x) (ap is_done i) (ap is_done e)

  not_failed : (x : Status) → x ≡ Failed → x ≡ Done → ⊥
  not_failed x e i = clash (is_done x) (ap is_done i) (ap is_done e)

  pub left_head : (c : Classes) (ts : List Text) → CalmDone calm c → HeadOk (left_of c ts)
  left_head c [] d = tt
  left_head c (t ∷ ts) d = by (c t) refl (left_head c ts d)
    where
      by : (x : Status) → c t ≡ x → HeadOk (left_of c ts) → HeadOk (left_at x (t ∷ ts) (left_of c ts))
      by New e h = busy_class c t d (not_new (c t) e)
      by Running e h = h
      by Done e h = h
      by Failed e h = busy_class c t d (not_failed (c t) e)

  running : (w : World) (c : Classes) (t : Text) (k : Option MethodKey) (stack : List Waiting) (script : List Move) → ((x : MethodKey) → k ≡ Some x → live x) → calm t ≡ false
      → Fine w → WaitOk stack → Fits c script → GoodState (runs find w c t k stack script) (runs other w c t k (sifted stack) script)
  running w c t (Some k) stack script l n h s m = entering w c k [] (Ending t ∷ stack) script h (l k refl) (n, s) m
  running w c t None stack script l n h s m = state_one (On w c (Ending t ∷ stack) script) (h, ((n, s), m))

  pub going_on : (w : World) (c : Classes) (t : Text) (ts : List Text) (stack : List Waiting) (script : List Move) → ok t → calm t ≡ false → Each ok ts → HeadOk ts
      → Fine w → WaitOk stack → Fits c script → GoodState (goes_on F find w c t ts stack script) (goes_on G other w c t (sieve calm ts) (sifted stack) script)
  going_on w c t [] stack script k n a b h s m = subst (λ x. GoodState (goes_on F find w c t [] stack script) (runs other w c t x (sifted stack) script)) (agree.initialiser t k)
      (running w c t (F.initialiser t) stack script (λ x e. agree.initialiser_live t x k e) n h s m)
  going_on w c t (d ∷ ds) stack script k n a b h s m = record {
    same = subst (λ l. On w c (Initialiser t l ∷ sifted stack) script ≡ goes_on G other w c t l (sifted stack) script) (sym (ap (λ b. cond (not b) (d ∷ sieve calm ds) (sieve calm ds)) b)) refl;
    good = (h, (((k, n), ((a, b), s)), m));
  }

  pub starting : (w : World) (c : Classes) (t : Text) (stack : List Waiting) (script : List Move) → ok t → calm t ≡ false
      → Fine w → WaitOk stack → Fits c script → GoodState (starts F find w c t stack script) (starts G other w c t (sifted stack) script)
  starting w c t stack script k n h s m = subst (λ x. GoodState (starts F find w c t stack script) (goes_on G other w (put_status t Running c) t x (sifted stack) script))
      (left_sieved (put_status t Running c) (F.first t) d ∙ ap (left_of (put_status t Running c)) (agree.first t k))
      (going_on w (put_status t Running c) t (left_of (put_status t Running c) (F.first t)) stack script k n (left_ok (put_status t Running c) (F.first t) (agree.first_ok t k))
      (left_head (put_status t Running c) (F.first t) d) h s (d, m.1))
    where
      d : CalmDone calm (put_status t Running c)
      d = put_done c t Running n m.0

  resuming : (w : World) (c : Classes) (stack : List Waiting) (script : List Move)
      → Fine w → WaitOk stack → Fits c script → GoodState (resumes F find w c stack script) (resumes G other w c (sifted stack) script)
  resuming w c [] script h s m = state_one (On w c [] script) (h, (s, m))
  resuming w c (Method f ∷ rest) script h s m = state_one (On w c (Method f ∷ rest) script) (h, ((s.0.0, s.1), m))
  resuming w c (Initialiser t above ∷ rest) script h s m = subst (λ x. GoodState (resumes F find w c (Initialiser t above ∷ rest) script) (goes_on G other w c t x (sifted rest) script)) (left_sieved c above m.0)
      (going_on w c t (left_of c above) rest script s.0.0 s.0.1 (left_ok c above s.1.0.0) (left_head c above m.0) h s.1.1 m)
  resuming w c (Ending t ∷ rest) script h s m = state_one (On w c (Ending t ∷ rest) script) (h, (s, m))
  resuming w c (Outside owes pending ∷ rest) script h s m = state_one (On w c (Outside owes pending ∷ rest) script) (h, (s, m))

  pub ending : (w : World) (c : Classes) (t : Text) (rest : List Waiting) (script : List Move) → calm t ≡ false
      → Fine w → WaitOk rest → Fits c script → GoodState (ends F find w c t rest script) (ends G other w c t (sifted rest) script)
  ending w c t rest script n h s m = resuming w (put_status t Done c) rest script h s (put_done c t Done n m.0, m.1)
