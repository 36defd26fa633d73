-- The initialiser of a class, by numbers and by names.
use Rattle.std.proofs.Common.{◌≡◌, ℕ, ◌<◌, Bool, true, false, true≢false, List, [], ◌∷◌, length, map, ap, refl, sym, subst, ◌∙◌}
use Rattle.std.specs.Prelude.{◌&&◌, Option, Some, None, codes, cond, is_some, option_and_then, position, slice_get}
use Rattle.std.specs.Option.{option_map}
use Rattle.program_model.specs.Lookups as look
use Rattle.program_model.specs.Lookups.{method_or}
use Rattle.program_model.specs.MemberRules.{is_static}
use Rattle.program_model.specs.declared.body.Body.{Body}
use Rattle.program_model.specs.declared.pools.MethodName.{MethodName}
use Rattle.program_model.specs.declared.program.Class.{Class}
use Rattle.program_model.specs.declared.program.Method.{Method}
use Rattle.program_model.specs.declared.program.MethodAt.{MethodAt}
use Rattle.program_model.specs.declared.program.Program.{Program}
use Rattle.class_defs.specs.Starts.{initialiser_of, initialiser_place, is_initialiser, names_initialiser, running, runs}
use Rattle.class_defs.proofs.Positions.{entry_at, place_entry}
use Rattle.name_bridge.proofs.Candidates.{named_test}
use Rattle.name_bridge.proofs.Classes.{class_parts}
use Rattle.name_bridge.proofs.Tables.{and_left, and_right, method_is, sound}
use Rattle.dalvik_defs.specs.Initialised.{initialiser_key}
use Rattle.dalvik_defs.specs.Names.{Text, initialiser_name, same_name, signature_eq, text_eq, texts_eq, void}
use Rattle.dalvik_defs.specs.Naming.{body_of, method_at, signature_at, text_at, type_at}
use Rattle.dalvik_defs.specs.declared.names.MethodKey.{MethodKey}
use Rattle.dalvik_defs.specs.declared.names.Signature.{Signature}
use Rattle.dalvik_lookups.specs.Facing.{run_face}
use Rattle.dalvik_lookups.specs.Tables.{place_named, IsRight}
use Rattle.dalvik_lookups.specs.declared.lookups.Lookups.{Lookups}
use Rattle.dalvik_lookups.proofs.Facing.{right_face}
use Rattle.dalvik_lookups.proofs.Interned.{text_sound}
use Rattle.dalvik_state.specs.declared.datum.Datum.{Datum}
use Rattle.dalvik_state.specs.declared.frame.Frame.{Frame}
use Rattle.dalvik_state.specs.Frames.{cell}
use Rattle.dalvik_state.specs.Runs.{bodies_in}
use Rattle.dalvik_state.specs.States.{class_text}
use Rattle.dalvik_state.specs.Views.{names_in, AreFine}
use Rattle.dalvik_steps.specs.Entries.{IsEntry}
use Rattle.dalvik_steps.specs.Turns.{HasNoTurn, IsTurn}
use Rattle.dalvik_steps.proofs.Entering.{own_body}
use Rattle.dalvik_steps.proofs.Turning.{own_class, text_by}

-- ---- the name of an initialiser

no_texts : (ts : List Text) → texts_eq ts [] ≡ true → ts ≡ []
no_texts [] e = refl
no_texts (t ∷ ts) e = absurd (true≢false (sym e))

void_is : (s : Signature) → signature_eq s void ≡ true → s ≡ void
void_is s e =
    let result = text_sound s.result void.result (and_left (text_eq s.result void.result) (texts_eq s.parameters void.parameters) e) in
    let parameters = no_texts s.parameters (and_right (text_eq s.result void.result) (texts_eq s.parameters void.parameters) e) in
    λ i. record { parameters = parameters i; result = result i }

named_initialiser : (p : Program) (q : MethodName) → names_initialiser p (Some q) ≡ true → (text_at p q.name ≡ initialiser_name) × (signature_at p q.proto ≡ void)
named_initialiser p q e =
    let both : (text_eq (text_at p q.name) initialiser_name && signature_eq (signature_at p q.proto) void) ≡ true = named_test p q.name q.proto (codes "<clinit>") [] 86 [] ∙ e in (
      text_sound (text_at p q.name) initialiser_name (and_left (text_eq (text_at p q.name) initialiser_name) (signature_eq (signature_at p q.proto) void) both),
      void_is (signature_at p q.proto) (and_right (text_eq (text_at p q.name) initialiser_name) (signature_eq (signature_at p q.proto) void) both),
    )

-- ---- the initialiser of a class

-- a method with code that a class is initialised by
pub record Starts (l : Lookups) (class : ℕ) (at : MethodAt) : Type 0 where
  pub own : Method
  pub found : look.method_at l.program.now at ≡ Some own
  pub code : Body
  pub coded : own.body ≡ Some code
  pub key : (run_face l).initialiser (class_text l.program.now class) ≡ Some (method_at l.program.now own.name)

code_there : (o : Option Body) → is_some o ≡ true → (b : Body) × (o ≡ Some b)
code_there (Some b) e = (b, refl)
code_there None e = absurd (true≢false (sym e))

module _ (l : Lookups) (r : IsRight l) (class : ℕ) (low : class < length l.program.now.classes) where
  initialiser_by : (run_face l).initialiser (class_text l.program.now class) ≡ option_map (λ (i : ℕ). initialiser_key (class_text l.program.now class)) (initialiser_place l.program.now class)
  initialiser_by = (right_face l r).initialiser (class_text l.program.now class)
      ∙ ap (λ (o : Option ℕ). option_map (λ (i : ℕ). initialiser_key (class_text l.program.now class)) (option_and_then (initialiser_place l.program.now) o)) (own_class l r class low)

  pub starts_none : method_or class (initialiser_place l.program.now class) None ≡ None → (run_face l).initialiser (class_text l.program.now class) ≡ None
  starts_none e = initialiser_by ∙ by (initialiser_place l.program.now class) e
    where
      by : (o : Option ℕ) → method_or class o None ≡ None → option_map (λ (i : ℕ). initialiser_key (class_text l.program.now class)) o ≡ None
      by None f = refl
      by (Some i) f = absurd (cc)

  starts_at : (k : Class) (i : ℕ) (o : Option ℕ) → slice_get l.program.now.classes class ≡ Some k → position (is_initialiser l.program.now) k.methods ≡ o → running k.methods o ≡ Some i → initialiser_place l.program.now class ≡ Some i → Starts l class (record { class = class; place = i })
  starts_at k i None e f g h = absurd (cc)
  starts_at k i (Some j) e f g h = by (runs (slice_get k.methods j)) refl g
    where
      by : (b : Bool) → runs (slice_get k.methods j) ≡ b → cond b (Some j) None ≡ Some i → Starts l class (record { class = class; place = i })
      by false t u = absurd (cc)
      by true t u =
          let p = l.program.now in
          let s = sound p r.well in
          let same : j ≡ i = cc in
          let there = place_entry (is_initialiser p) k.methods j f in
          let m = there.entry in
          let code = code_there m.body (and_right (is_static m.flags) (is_some m.body) (sym (ap runs there.is) ∙ t)) in
          let fit = (class_parts p s class k e).methods j m there.is in
          let names = named_initialiser p fit.entry (sym (ap (names_initialiser p) fit.is) ∙ there.passes) in
          let text : class_text p class ≡ type_at p k.name = ap (text_by p) e in
          record {
            own = m;
            found = ap (option_and_then (λ (c : Class). slice_get c.methods i)) e ∙ ap (slice_get k.methods) (sym same) ∙ there.is;
            code = code.0;
            coded = code.1;
            key = initialiser_by ∙ ap (option_map (λ (n : ℕ). initialiser_key (class_text p class))) h
                ∙ ap (λ (q : MethodKey). Some q) (sym (method_is p s m.name fit.entry fit.is ∙ (λ x. record { class = (ap (type_at p) fit.owner ∙ sym text) x; name = names.0 x; signature = names.1 x })));
          }

  pub starts_some : (at : MethodAt) → method_or class (initialiser_place l.program.now class) None ≡ Some at → Starts l class at
  starts_some at e = by (initialiser_place l.program.now class) refl e
    where
      by : (o : Option ℕ) → initialiser_place l.program.now class ≡ o → method_or class o None ≡ Some at → Starts l class at
      by None f g = absurd (cc)
      by (Some i) f g =
          let same : record { class = class; place = i } ≡ at = cc in
          let k = entry_at l.program.now.classes class low in
          subst (Starts l class) same (starts_at k.0 i (position (is_initialiser l.program.now) k.0.methods) k.1 refl (sym (ap (initialiser_of l.program.now) k.1) ∙ f) f)

  pub no_values : (size : ℕ) → AreFine (names_in l) size []
  no_values size = record { at = λ q. tt }

  pub turn_ends : (size : ℕ) (at : MethodAt) (h : Starts l class at) → IsEntry l size h.own [] None → HasNoTurn l class
  turn_ends size at h e = record { key = method_at l.program.now h.own.name; is = h.key; not = e }

  pub turn_goes : (size : ℕ) (at : MethodAt) (h : Starts l class at) (f : Frame) → IsEntry l size h.own [] (Some f) → IsTurn l size class (Some f)
  turn_goes size at h f e = record { key = method_at l.program.now h.own.name; is = h.key; body = e.body; found = e.found; fits = e.fits; frame = e.frame; sound = e.sound; start = e.start }
