-- What a call finds and passes, by numbers and by names.
use Rattle.std.proofs.Common.{◌≡◌, ℕ, zero, suc, ◌+◌, ◌<◌, Bool, true, false, true≢false, List, [], ◌∷◌, length, map, ap, refl, sym, subst, ◌∙◌, ◌⊎◌, inl, inr}
use Rattle.std.specs.Prelude.{◌&&◌, not, is_some, Option, Some, None, slice_get, option_and_then}
use Rattle.std.specs.Option.{option_map}
use Rattle.insn_set.specs.declared.ops.InvokeKind.{InvokeKind}
use Rattle.insn_set.specs.declared.ops.InvokeKind.TheVariants as call
use Rattle.class_defs.proofs.WellFormed.{class_parts, sound, Sound}
use Rattle.program_model.specs.Lookups as look
use Rattle.program_model.specs.declared.program.Class.{Class}
use Rattle.program_model.specs.declared.program.Method.{Method}
use Rattle.program_model.specs.declared.program.MethodAt.{MethodAt}
use Rattle.program_model.specs.declared.program.Program.{Program}
use Rattle.name_bridge.specs.Named.{finds, found_at, found_of, found_there}
use Rattle.name_bridge.proofs.Candidates.{coded_test}
use Rattle.name_bridge.proofs.Tables.{method_is}
use Rattle.dalvik_defs.specs.Effect.{register}
use Rattle.dalvik_defs.specs.Face.{Face}
use Rattle.dalvik_defs.specs.Find as name
use Rattle.dalvik_defs.specs.Find.{Found, found_in}
use Rattle.dalvik_defs.specs.Known.{null_pointer}
use Rattle.dalvik_defs.specs.Names.{Text}
use Rattle.dalvik_defs.specs.Naming.{method_at, named_class, named_method, type_at}
use Rattle.dalvik_defs.specs.Outcome.{calls, faults, on_receiver, receiver, takes_no_receiver, Need, Outcome}
use Rattle.dalvik_defs.specs.State.{World as NamedWorld, is_null}
use Rattle.dalvik_defs.specs.declared.state.Frame.{Frame as NamedFrame}
use Rattle.dalvik_defs.specs.declared.state.Value.{Value}
use Rattle.dalvik_defs.specs.declared.names.MethodKey.{MethodKey}
use Rattle.dalvik_lookups.specs.Facing.{named_search}
use Rattle.dalvik_lookups.specs.Tables.{IsRight}
use Rattle.dalvik_lookups.specs.declared.finds.Search.TheVariants as find
use Rattle.dalvik_lookups.specs.declared.lookups.Lookups.{Lookups}
use Rattle.dalvik_lookups.proofs.Interned.{got_short}
use Rattle.dalvik_state.specs.declared.datum.Datum.{Datum}
use Rattle.dalvik_state.specs.declared.datum.Datum.TheVariants as datum
use Rattle.dalvik_state.specs.declared.frame.Frame.{Frame}
use Rattle.dalvik_state.specs.Frames.{cell}
use Rattle.dalvik_state.specs.States.{class_text}
use Rattle.dalvik_state.specs.Views.{frame_of, value_of, values_of, Names}
use Rattle.dalvik_state.proofs.Named.{cell_named}
use Rattle.dalvik_steps.specs.Invoking.{calls_on, receiver_in, IsFound}

-- ---- what is passed

pub passed_named : (n : Names) (f : Frame) (args : List ℕ) → map (register (frame_of n f)) args ≡ values_of n (map (cell f.registers.items) args)
passed_named n f [] = refl
passed_named n f (a ∷ rest) = λ i. cell_named n f a i ∷ passed_named n f rest i

pub receiver_named : (n : Names) (values : List Datum) → receiver (values_of n values) ≡ value_of n (receiver_in values)
receiver_named n [] = refl
receiver_named n (d ∷ ds) = refl

-- ---- a method that was found

pub record MethodFound (l : Lookups) (at : MethodAt) (own : Method) : Type 0 where
  pub found : Found
  pub is : named_search l.program.now (find.Finds at) ≡ name.Search.Finds found
  pub of : IsFound l found own
  pub class : found.key.class ≡ class_text l.program.now at.class
  pub low : at.class < length l.program.now.classes

pub method_found : (l : Lookups) → IsRight l → (at : MethodAt) (own : Method) → look.method_at l.program.now at ≡ Some own → MethodFound l at own
method_found l r at own h = by_class (slice_get l.program.now.classes at.class) refl h
  where
    p : Program
    p = l.program.now

    by_class : (o : Option Class) → slice_get p.classes at.class ≡ o → option_and_then (λ (c : Class). slice_get c.methods at.place) o ≡ Some own → MethodFound l at own
    by_class None g e = absurd (cc)
    by_class (Some k) g e =
        let fits = (class_parts p (sound p r.well) at.class k g).methods at.place own e in
        let key = method_is p (sound p r.well) own.name fits.entry fits.is in
        record {
          found = found_in (named_class p k) (named_method p own);
          is = ap finds (ap (found_of p at.place) g ∙ ap (found_there p k) e);
          of = record {
            key = λ i. record {
              class = (ap (type_at p) (sym fits.owner) ∙ sym (ap (λ (x : MethodKey). x.class) key)) i;
              name = (method_at p own.name).name;
              signature = (method_at p own.name).signature;
            };
            flags = refl;
            coded = coded_test p own.body;
            within = got_short p.methods own.name fits.entry fits.is;
          };
          class = sym (ap (λ o. elim o as (λ o. Text) [ Some d ↦ type_at p d.name | None ↦ [] ]) g);
          low = got_short p.classes at.class k g;
        }

-- one that isn't there isn't found
pub method_unfound : (l : Lookups) (at : MethodAt) → look.method_at l.program.now at ≡ None → named_search l.program.now (find.Finds at) ≡ name.Search.Nothing
method_unfound l at h = by_class (slice_get l.program.now.classes at.class) refl h
  where
    p : Program
    p = l.program.now

    by_class : (o : Option Class) → slice_get p.classes at.class ≡ o → option_and_then (λ (c : Class). slice_get c.methods at.place) o ≡ None → finds (found_at p at) ≡ name.Search.Nothing
    by_class None g e = ap (λ o. finds (found_of p at.place o)) g
    by_class (Some k) g e = ap (λ o. finds (found_of p at.place o)) g ∙ ap (λ o. finds (found_there p k o)) e

-- ---- receivers

null_by : (values : List Value) (w : NamedWorld) (now : Outcome) (b : Bool) → is_null (receiver values) ≡ b → on_receiver values w now ≡ elim b as (λ b. Outcome) [ true ↦ faults w null_pointer | false ↦ now ]
null_by values w now b e = ap (λ (c : Bool). elim c as (λ c. Outcome) [ true ↦ faults w null_pointer | false ↦ now ]) e

module _ (face : Face) (need : Text → Need) (k : MethodKey) (values : List Value) (w : NamedWorld) (f : NamedFrame) where
  pub calls_null : (kind : InvokeKind) → takes_no_receiver kind ≡ false → is_null (receiver values) ≡ true → calls face need kind k values w f ≡ faults w null_pointer
  calls_null call.Static t e = absurd (true≢false t)
  calls_null call.Direct t e = null_by values w (calls_on face need call.Direct k values w f) true e
  calls_null call.Super t e = null_by values w (calls_on face need call.Super k values w f) true e
  calls_null call.Virtual t e = null_by values w (calls_on face need call.Virtual k values w f) true e
  calls_null call.Interface t e = null_by values w (calls_on face need call.Interface k values w f) true e

  pub calls_there : (kind : InvokeKind) → (not (takes_no_receiver kind) && is_null (receiver values)) ≡ false → calls face need kind k values w f ≡ calls_on face need kind k values w f
  calls_there call.Static e = refl
  calls_there call.Direct e = null_by values w (calls_on face need call.Direct k values w f) false e
  calls_there call.Super e = null_by values w (calls_on face need call.Super k values w f) false e
  calls_there call.Virtual e = null_by values w (calls_on face need call.Virtual k values w f) false e
  calls_there call.Interface e = null_by values w (calls_on face need call.Interface k values w f) false e
