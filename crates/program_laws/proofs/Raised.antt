-- A typing of a body is one of the body without its silent calls, where the place of the last result is undefined at every
-- position that doesn't take it.
use Rattle.std.proofs.Common.{◌≡◌, ℕ, zero, suc, ◌+◌, Bool, true, false, List, [], ◌∷◌, length, refl, sym, ap, ◌∙◌, subst, arith}
use Rattle.std.specs.Prelude.{◌&&◌, not, Option, Some, None, map, if◌then◌else◌, slice_get}
use Rattle.std.specs.List.{list_all}
use Rattle.std.specs.Option.{option_map}
use Rattle.lemmas.proofs.Bools.{and_right, clash, not_true}
use Rattle.lemmas.proofs.Lists.{all_append, all_first, all_last}
use Rattle.insn_set.specs.declared.ops.InvokeKind.{InvokeKind}
use Rattle.insn_set.specs.declared.ops.InvokeKind.TheVariants as call
use Rattle.dalvik_defs.specs.Outer.{Outer}
use Rattle.dalvik_defs.specs.Silence.{calls_silent, silenced_forms, silenced_body}
use Rattle.dalvik_defs.specs.Silence.{takes_result as begins_with_result}
use Rattle.dalvik_defs.specs.declared.names.MethodKey.{MethodKey}
use Rattle.dalvik_defs.specs.declared.forms.Form.{Form}
use Rattle.dalvik_defs.specs.declared.forms.Form.TheVariants as form
use Rattle.dalvik_defs.specs.declared.program.NamedHandler.{NamedHandler}
use Rattle.dalvik_defs.specs.declared.program.NamedRegion.{NamedRegion}
use Rattle.dalvik_defs.specs.declared.program.NamedBody.{NamedBody}
use Rattle.dalvik_defs.specs.declared.program.NamedMethod.{NamedMethod}
use Rattle.dalvik_defs.specs.declared.program.NamedClass.{NamedClass}
use Rattle.dalvik_defs.specs.declared.program.NamedProgram.{NamedProgram}
use Rattle.pass_defs.specs.Bare.{may_throw}
use Rattle.pass_defs.specs.Quiet.{takes_result}
use Rattle.pass_defs.specs.Walks.{form_at, region_at, onward, caught, listed, handlers_of}
use Rattle.pass_defs.specs.Kinds.{Kind, Undefined, Zero, Word, Low, High, Null, Class, Array, Reference, Fresh, FreshThis, is_below, kind_of}
use Rattle.pass_defs.specs.Registers.{Kinds, kind_at, state_below, all_below}
use Rattle.pass_defs.specs.Demands.{meets, demands, place_allowed, is_allowed, is_constructor_name}
use Rattle.pass_defs.specs.Typed.{begun, constructed, receiver_register, is_static_call, called, after, is_wrong, catch_all, catches_in, catches, edges, Table, state_at, each, at_state, arrives, IsTyping}
use Rattle.program_laws.specs.Results.{gives_result, takes_none, TakesInPlace}
use Rattle.program_laws.proofs.ChangedLists.{and_left, and_both, all_map, all_from}

-- ---- kinds whose result is undefined where it isn't taken

abbrev pub raise : Bool → Kinds → Kinds
raise true a = a
raise false a = record a { result = Undefined }

module _ (p : NamedProgram) where
  undefined_above : (k : Kind) → is_below p k Undefined ≡ true
  undefined_above Undefined = refl
  undefined_above Zero = refl
  undefined_above Word = refl
  undefined_above Low = refl
  undefined_above High = refl
  undefined_above Null = refl
  undefined_above (Class t) = refl
  undefined_above (Array t) = refl
  undefined_above Reference = refl
  undefined_above (Fresh t n) = refl
  undefined_above FreshThis = refl

  middle : (a b k x y : Bool) → k ≡ true → (a && b && x && y) ≡ true → (a && k && x && y) ≡ true
  middle true true k x y h e = ap (λ k. k && x && y) h ∙ e
  middle true false k x y h e = clash false e refl
  middle false b k x y h e = clash false e refl

  below_any : (x : Kinds) (r : Kind) (o : Option Kinds) → state_below p (Some x) o ≡ true → state_below p (Some (record x { result = r })) (option_map (raise false) o) ≡ true
  below_any x r None e = e
  below_any x r (Some y) e = middle (all_below p x.registers y.registers) (is_below p x.result y.result) (is_below p r Undefined) (is_below p x.caught y.caught) (is_below p x.receiver y.receiver) (undefined_above r) e

  below_raised : (takes : Bool) (x : Kinds) (o : Option Kinds) → state_below p (Some x) o ≡ true → state_below p (Some x) (option_map (raise takes) o) ≡ true
  below_raised takes x None e = e
  below_raised true x (Some y) e = e
  below_raised false x (Some y) e = below_any x x.result (Some y) e

  -- ---- tables

  abbrev pub raised : List Form → Table → Table
  raised fs [] = []
  raised [] (a ∷ t) = option_map (raise false) a ∷ raised [] t
  raised (f ∷ fs) (a ∷ t) = option_map (raise (takes_result (Some f))) a ∷ raised fs t

  raised_length : (fs : List Form) (t : Table) → length (raised fs t) ≡ length t
  raised_length fs [] = refl
  raised_length [] (a ∷ t) = ap suc (raised_length [] t)
  raised_length (f ∷ fs) (a ∷ t) = ap suc (raised_length fs t)

  raised_at : (fs : List Form) (t : Table) (n : ℕ) → state_at (raised fs t) n ≡ option_map (raise (takes_result (slice_get fs n))) (state_at t n)
  raised_at fs [] n = refl
  raised_at [] (a ∷ t) zero = refl
  raised_at [] (a ∷ t) (suc n) = raised_at [] t n
  raised_at (f ∷ fs) (a ∷ t) zero = refl
  raised_at (f ∷ fs) (a ∷ t) (suc n) = raised_at fs t n

  -- ---- what a form leaves

  module _ (c : NamedClass) (m : NamedMethod) where
    constructed_kept : (r k : Kind) (a : Kinds) → record (constructed p c k (raise false a)) { result = r } ≡ record (constructed p c k a) { result = r }
    constructed_kept r (Fresh t n) a = refl
    constructed_kept r FreshThis a = refl
    constructed_kept r k a = refl

    called_kept : (kind : InvokeKind) (k : MethodKey) (rs : List ℕ) (a : Kinds) → called p c kind k rs (raise false a) ≡ called p c kind k rs a
    called_kept kind k rs a = by (is_constructor_name k.name && not (is_static_call kind))
      where
        by : (b : Bool) → record (if b then constructed p c (kind_at a.registers (receiver_register rs)) (raise false a) else raise false a) { result = kind_of p k.signature.result }
            ≡ record (if b then constructed p c (kind_at a.registers (receiver_register rs)) a else a) { result = kind_of p k.signature.result }
        by true = constructed_kept (kind_of p k.signature.result) (kind_at a.registers (receiver_register rs)) a
        by false = refl

    after_given : (n : ℕ) (f : Form) (a : Kinds) → gives_result f ≡ true → after p c n f (raise false a) ≡ after p c n f a
    after_given n (form.Invoke kind k args) a e = called_kept kind k args a
    after_given n (form.FilledNewArray kind args) a e = refl
    after_given n f a e = clash false e refl

    after_kept : (n : ℕ) (f : Form) (a : Kinds) → takes_result (Some f) ≡ false → gives_result f ≡ false → after p c n f (raise false a) ≡ record (after p c n f a) { result = Undefined }
    after_kept n (form.MoveResult slot to) a w e = clash true refl w
    after_kept n (form.Invoke kind k args) a w e = clash true refl e
    after_kept n (form.FilledNewArray kind args) a w e = clash true refl e
    after_kept n f a w e = refl

    -- a static call changes the result alone
    static_leaves : (k : MethodKey) (args : List ℕ) (a : Kinds) → record (called p c call.Static k args a) { result = Undefined } ≡ raise false a
    static_leaves k args a = by (is_constructor_name k.name)
      where
        by : (b : Bool) → record (if b && false then constructed p c (kind_at a.registers (receiver_register args)) a else a) { result = Undefined } ≡ raise false a
        by true = refl
        by false = refl

    -- ---- reads, and what is wrong

    place_kept : (f : Form) (a : Kinds) → takes_result (Some f) ≡ false → place_allowed (raise false a) f ≡ place_allowed a f
    place_kept (form.MoveResult slot to) a w = clash true refl w
    place_kept f a w = refl

    allowed_kept : (takes : Bool) (f : Form) (a : Kinds) → takes_result (Some f) ≡ takes → is_allowed p c m a f ≡ true → is_allowed p c m (raise takes a) f ≡ true
    allowed_kept true f a w e = e
    allowed_kept false f a w e = ap (λ b. b && list_all (λ d. meets p c a.registers d.0 d.1) (demands p c m a.registers f)) (place_kept f a w) ∙ e

    wrong_raised : (f : Form) (a : Kinds) → is_wrong p c m (raise false a) f ≡ is_wrong p c m a f
    wrong_raised form.ReturnVoid a = refl
    wrong_raised f a = refl

    right_kept : (takes : Bool) (f : Form) (a : Kinds) → not (is_wrong p c m a f) ≡ true → not (is_wrong p c m (raise takes a) f) ≡ true
    right_kept true f a e = e
    right_kept false f a e = ap not (wrong_raised f a) ∙ e

    -- ---- edges

    module _ (b : NamedBody) (places : TakesInPlace b) (t : Table) where
      abbrev pub u : Table
      u = raised b.forms t

      arrives_still : (k : ℕ) (x : Kinds) → arrives p t (k, x) ≡ true → arrives p u (k, x) ≡ true
      arrives_still k x e = ap (state_below p (Some x)) (raised_at b.forms t k) ∙ below_raised (takes_result (form_at b k)) x (state_at t k) e

      arrives_any : (k : ℕ) (x : Kinds) (r : Kind) → takes_none b k ≡ true → arrives p t (k, x) ≡ true → arrives p u (k, record x { result = r }) ≡ true
      arrives_any k x r w e = ap (state_below p (Some (record x { result = r }))) (raised_at b.forms t k)
          ∙ ap (λ w. state_below p (Some (record x { result = r })) (option_map (raise w) (state_at t k))) (not_true (takes_result (form_at b k)) w)
          ∙ below_any x r (state_at t k) e

      abbrev goes_to : Kinds → ℕ → ℕ × Kinds
      goes_to x k = (k, x)

      abbrev caught_with : Kinds → ℕ × Kind → ℕ × Kinds
      caught_with a h = (h.0, record a { caught = h.1 })

      onward_still : (n : ℕ) (f : Form) (x : Kinds) → list_all (λ k. arrives p t (k, x)) (onward f n) ≡ true → list_all (λ k. arrives p u (k, x)) (onward f n) ≡ true
      onward_still n f x e = all_from (λ k. arrives p t (k, x)) (λ k. arrives p t (k, x)) (λ k. arrives p u (k, x)) (λ k d e. arrives_still k x e) (onward f n) e e

      onward_any : (n : ℕ) (f : Form) (x : Kinds) (r : Kind) → list_all (takes_none b) (onward f n) ≡ true → list_all (λ k. arrives p t (k, x)) (onward f n) ≡ true → list_all (λ k. arrives p u (k, record x { result = r })) (onward f n) ≡ true
      onward_any n f x r w e = all_from (takes_none b) (λ k. arrives p t (k, x)) (λ k. arrives p u (k, record x { result = r })) (λ k d e. arrives_any k x r d e) (onward f n) w e

      onward_kept : (takes gives : Bool) (n : ℕ) (f : Form) (a : Kinds) → form_at b n ≡ Some f → takes_result (Some f) ≡ takes → gives_result f ≡ gives
          → list_all (λ k. arrives p t (k, after p c n f a)) (onward f n) ≡ true → list_all (λ k. arrives p u (k, after p c n f (raise takes a))) (onward f n) ≡ true
      onward_kept true gives n f a i w g e = onward_still n f (after p c n f a) e
      onward_kept false true n f a i w g e = ap (λ x. list_all (λ k. arrives p u (k, x)) (onward f n)) (after_given n f a g) ∙ onward_still n f (after p c n f a) e
      onward_kept false false n f a i w g e = ap (λ x. list_all (λ k. arrives p u (k, x)) (onward f n)) (after_kept n f a w g)
          ∙ onward_any n f (after p c n f a) Undefined (places.onward n f i g) e

      -- the positions of handlers
      rest_places : (o : Option ℕ) → list_all (λ (h : ℕ × Kind). takes_none b h.0) (catch_all o) ≡ list_all (takes_none b) (listed o)
      rest_places None = refl
      rest_places (Some n) = refl

      region_places : (o : Option NamedRegion) → list_all (takes_none b) (handlers_of o) ≡ true → list_all (λ (h : ℕ × Kind). takes_none b h.0) (catches_in p o) ≡ true
      region_places None e = refl
      region_places (Some r) e = all_append (λ (h : ℕ × Kind). takes_none b h.0) (map (λ h. (h.position, kind_of p h.kind)) r.handlers) (catch_all r.rest)
          (all_map (λ (h : ℕ × Kind). takes_none b h.0) (λ (h : NamedHandler). (h.position, kind_of p h.kind)) r.handlers
          ∙ sym (all_map (takes_none b) (λ (h : NamedHandler). h.position) r.handlers)
          ∙ all_first (takes_none b) (map (λ h. h.position) r.handlers) (listed r.rest) e)
          (rest_places r.rest ∙ all_last (takes_none b) (map (λ h. h.position) r.handlers) (listed r.rest) e)

      caught_places : (n : ℕ) (f : Form) → list_all (takes_none b) (caught b f n) ≡ true → list_all (λ (h : ℕ × Kind). takes_none b h.0) (catches p b n f) ≡ true
      caught_places n f e = by (may_throw f) e
        where
          by : (x : Bool) → list_all (takes_none b) (elim x as (λ x. List ℕ) [ true ↦ handlers_of (region_at b n) | false ↦ [] ]) ≡ true
              → list_all (λ (h : ℕ × Kind). takes_none b h.0) (if x then catches_in p (region_at b n) else []) ≡ true
          by true e = region_places (region_at b n) e
          by false e = refl

      caught_kept : (takes : Bool) (n : ℕ) (f : Form) (a : Kinds) → form_at b n ≡ Some f → list_all (λ h. arrives p t (caught_with a h)) (catches p b n f) ≡ true → list_all (λ h. arrives p u (caught_with (raise takes a) h)) (catches p b n f) ≡ true
      caught_kept takes n f a i e = all_from (λ (h : ℕ × Kind). takes_none b h.0) (λ h. arrives p t (caught_with a h)) (λ h. arrives p u (caught_with (raise takes a) h)) (step takes)
          (catches p b n f) (caught_places n f (places.caught n f i)) e
        where
          step : (takes : Bool) (h : ℕ × Kind) → takes_none b h.0 ≡ true → arrives p t (caught_with a h) ≡ true → arrives p u (caught_with (raise takes a) h) ≡ true
          step true h w e = arrives_still h.0 (record a { caught = h.1 }) e
          step false h w e = arrives_any h.0 (record a { caught = h.1 }) Undefined w e

      edges_kept : (takes : Bool) (n : ℕ) (f : Form) (a : Kinds) → form_at b n ≡ Some f → takes_result (Some f) ≡ takes → list_all (arrives p t) (edges p c b n f a) ≡ true → list_all (arrives p u) (edges p c b n f (raise takes a)) ≡ true
      edges_kept takes n f a i w e =
          let before : List (ℕ × Kinds) = map (goes_to (after p c n f a)) (onward f n) in
          let thrown : List (ℕ × Kinds) = map (caught_with a) (catches p b n f) in
          all_append (arrives p u) (map (goes_to (after p c n f (raise takes a))) (onward f n)) (map (caught_with (raise takes a)) (catches p b n f))
          (all_map (arrives p u) (goes_to (after p c n f (raise takes a))) (onward f n)
          ∙ onward_kept takes (gives_result f) n f a i w refl (sym (all_map (arrives p t) (goes_to (after p c n f a)) (onward f n)) ∙ all_first (arrives p t) before thrown e))
          (all_map (arrives p u) (caught_with (raise takes a)) (catches p b n f)
          ∙ caught_kept takes n f a i (sym (all_map (arrives p t) (caught_with a) (catches p b n f)) ∙ all_last (arrives p t) before thrown e))

      -- ---- a silent call

      module _ (o : Outer) where
        abbrev pub silent : NamedBody
        silent = silenced_body p o b

        next_place : (n : ℕ) → takes_result (form_at b (suc n)) ≡ false → takes_none b (n + 1) ≡ true
        next_place n w = ap (λ k. takes_none b k) (one_more n) ∙ ap not w
          where
            one_more : (n : ℕ) → n + 1 ≡ suc n
            one_more n = omega arith

        nop_edge : (n : ℕ) (f : Form) (a : Kinds) → calls_silent p o f ≡ true → takes_result (form_at b (suc n)) ≡ false → list_all (arrives p t) (edges p c b n f a) ≡ true
            → list_all (arrives p u) (edges p c silent n form.Nop (raise (takes_result (Some f)) a)) ≡ true
        nop_edge n (form.Invoke call.Static k args) a s w e =
            let x : Kinds = called p c call.Static k args a in
            let first : arrives p t (n + 1, x) ≡ true = and_left (arrives p t (n + 1, x)) (list_all (arrives p t) (map (caught_with a) (catches p b n (form.Invoke call.Static k args)))) e in
            and_both (arrives p u (n + 1, raise false a)) true (ap (λ y. arrives p u (n + 1, y)) (sym (static_leaves k args a)) ∙ arrives_any (n + 1) x Undefined (next_place n w) first) refl
        nop_edge n f a s w e = clash false s refl

        -- ---- each position

        data Becomes (next : Option Form) (f g : Form) : Type 0 where
          stays : f ≡ g → Becomes next f g
          goes : calls_silent p o f ≡ true → takes_result next ≡ false → form.Nop ≡ g → Becomes next f g

        abbrev Pair : Option Form → Option Form → Option Form → Type 0
        Pair next None None = Unit {0}
        Pair next (Some f) (Some g) = Becomes next f g
        Pair next None (Some g) = ⊥
        Pair next (Some f) None = ⊥

        same_taking : (fs : List Form) → begins_with_result fs ≡ takes_result (slice_get fs 0)
        same_taking [] = refl
        same_taking (form.MoveResult slot to ∷ fs) = refl
        same_taking (f ∷ fs) = refl

        pairs : (fs : List Form) (n : ℕ) → Pair (slice_get fs (suc n)) (slice_get fs n) (slice_get (silenced_forms p o fs) n)
        pairs [] n = tt
        pairs (f ∷ fs) zero = by (calls_silent p o f) (begins_with_result fs) refl refl
          where
            by : (x y : Bool) → calls_silent p o f ≡ x → begins_with_result fs ≡ y → Becomes (slice_get fs 0) f (elim (x && not y) as (λ b. Form) [ true ↦ form.Nop | false ↦ f ])
            by true false i j = goes i (sym (same_taking fs) ∙ j) refl
            by true true i j = stays refl
            by false y i j = stays refl
        pairs (f ∷ fs) (suc n) = pairs fs n

        length_kept : (fs : List Form) → length (silenced_forms p o fs) ≡ length fs
        length_kept [] = refl
        length_kept (f ∷ fs) = ap suc (length_kept fs)

        module _ (test other : Form → Kinds → Bool) (n : ℕ)
            (step : (f g : Form) (a : Kinds) → form_at b n ≡ Some f → Becomes (form_at b (suc n)) f g → test f a ≡ true → other g (raise (takes_result (Some f)) a) ≡ true) where
          abbrev on_state : (Form → Kinds → Bool) → Form → Option Kinds → Bool
          on_state g f o = elim o as (λ o. Bool) [ Some a ↦ g f a | None ↦ true ]

          abbrev on_form : (Form → Kinds → Bool) → Option Form → Option Kinds → Bool
          on_form g o x = elim o as (λ o. Bool) [ Some f ↦ on_state g f x | None ↦ true ]

          by_pair : (x y : Option Form) → Pair (form_at b (suc n)) x y → form_at b n ≡ x → (s : Option Kinds) → on_form test x s ≡ true → on_form other y (option_map (raise (takes_result x)) s) ≡ true
          by_pair None None h i s e = refl
          by_pair (Some f) (Some g) h i None e = refl
          by_pair (Some f) (Some g) h i (Some a) e = step f g a i h e
          by_pair None (Some g) h i s e = absurd h
          by_pair (Some f) None h i s e = absurd h

          at_pair : at_state b t test n ≡ true → at_state silent u other n ≡ true
          at_pair e = ap (on_form other (form_at silent n)) (raised_at b.forms t n) ∙ by_pair (form_at b n) (form_at silent n) (pairs b.forms n) refl (state_at t n) e

        each_step : (n : ℕ) (f h : ℕ → Bool) → ((k : ℕ) → f k ≡ true → h k ≡ true) → each n f ≡ true → each n h ≡ true
        each_step zero f h step e = refl
        each_step (suc n) f h step e = and_both (each n h) (h n) (each_step n f h step (and_left (each n f) (f n) e)) (step n (and_right (each n f) (f n) e))

        each_position : (f h : ℕ → Bool) → ((k : ℕ) → f k ≡ true → h k ≡ true) → each (length b.forms) f ≡ true → each (length silent.forms) h ≡ true
        each_position f h step e = ap (λ n. each n h) (length_kept b.forms) ∙ each_step (length b.forms) f h step e

        -- ---- the typing

        read_step : (n : ℕ) (f g : Form) (a : Kinds) → form_at b n ≡ Some f → Becomes (form_at b (suc n)) f g → is_allowed p c m a f ≡ true → is_allowed p c m (raise (takes_result (Some f)) a) g ≡ true
        read_step n f g a i (stays s) e = subst (λ g. is_allowed p c m (raise (takes_result (Some f)) a) g ≡ true) s (allowed_kept (takes_result (Some f)) f a refl e)
        read_step n f g a i (goes s w h) e = subst (λ g. is_allowed p c m (raise (takes_result (Some f)) a) g ≡ true) h refl

        right_step : (n : ℕ) (f g : Form) (a : Kinds) → form_at b n ≡ Some f → Becomes (form_at b (suc n)) f g → not (is_wrong p c m a f) ≡ true → not (is_wrong p c m (raise (takes_result (Some f)) a) g) ≡ true
        right_step n f g a i (stays s) e = subst (λ g. not (is_wrong p c m (raise (takes_result (Some f)) a) g) ≡ true) s (right_kept (takes_result (Some f)) f a e)
        right_step n f g a i (goes s w h) e = subst (λ g. not (is_wrong p c m (raise (takes_result (Some f)) a) g) ≡ true) h refl

        edge_step : (n : ℕ) (f g : Form) (a : Kinds) → form_at b n ≡ Some f → Becomes (form_at b (suc n)) f g → list_all (arrives p t) (edges p c b n f a) ≡ true
            → list_all (arrives p u) (edges p c silent n g (raise (takes_result (Some f)) a)) ≡ true
        edge_step n f g a i (stays s) e = subst (λ g. list_all (arrives p u) (edges p c silent n g (raise (takes_result (Some f)) a)) ≡ true) s (edges_kept (takes_result (Some f)) n f a i refl e)
        edge_step n f g a i (goes s w h) e = subst (λ g. list_all (arrives p u) (edges p c silent n g (raise (takes_result (Some f)) a)) ≡ true) h (nop_edge n f a s w e)

        pub silent_typing : IsTyping p c m b t → IsTyping p c m silent u
        silent_typing h = record {
          long = raised_length b.forms t ∙ h.long ∙ sym (length_kept b.forms);
          entry = arrives_still 0 (begun p c m b) h.entry;
          reads = each_position (at_state b t (λ f a. is_allowed p c m a f)) (at_state silent u (λ f a. is_allowed p c m a f))
              (λ n e. at_pair (λ f a. is_allowed p c m a f) (λ f a. is_allowed p c m a f) n (read_step n) e) h.reads;
          right = each_position (at_state b t (λ f a. not (is_wrong p c m a f))) (at_state silent u (λ f a. not (is_wrong p c m a f)))
              (λ n e. at_pair (λ f a. not (is_wrong p c m a f)) (λ f a. not (is_wrong p c m a f)) n (right_step n) e) h.right;
          edges = each_position (λ n. at_state b t (λ f a. list_all (arrives p t) (edges p c b n f a)) n) (λ n. at_state silent u (λ f a. list_all (arrives p u) (edges p c silent n f a)) n)
              (λ n e. at_pair (λ f a. list_all (arrives p t) (edges p c b n f a)) (λ f a. list_all (arrives p u) (edges p c silent n f a)) n (edge_step n) e) h.edges;
        }
