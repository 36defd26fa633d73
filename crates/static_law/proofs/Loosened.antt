-- The law of methods made static: a program shows the same where its loose methods are static, if calls that concern one
-- are plain and facts know the receivers of those that name one.
use Rattle.std.proofs.Common.{◌≡◌, ℕ, zero, suc, Bool, true, false, List, [], ◌∷◌, length, refl, sym, ap, ◌∙◌, subst}
use Rattle.std.specs.Prelude.{not, map, slice_get, Option, Some, None, is_some}
use Rattle.std.specs.Option.{option_and_then}
use Rattle.dalvik_defs.specs.Names.{Text}
use Rattle.dalvik_defs.specs.Under.{class_named, own_above}
use Rattle.dalvik_defs.specs.Find.{method_in, is_virtual_method}
use Rattle.dalvik_defs.specs.Face.{face_of, bodies_of}
use Rattle.dalvik_defs.specs.Outer.{Outer}
use Rattle.dalvik_defs.specs.Outcome.{receiver}
use Rattle.dalvik_defs.specs.State.{State, is_null, kind_of}
use Rattle.dalvik_defs.specs.declared.state.Frame.{Frame}
use Rattle.dalvik_defs.specs.Effect.{register}
use Rattle.dalvik_defs.specs.Stack.{form_at}
use Rattle.dalvik_defs.specs.Quiet.{EndsWithin, quiet_within, calm_opening}
use Rattle.dalvik_defs.specs.Shown.{Fit, SameShown}
use Rattle.dalvik_defs.specs.Silence.{key_in}
use Rattle.dalvik_defs.specs.declared.names.MethodKey.{MethodKey}
use Rattle.dalvik_defs.specs.declared.forms.Form.{Form}
use Rattle.dalvik_defs.specs.declared.forms.Form.TheVariants as form
use Rattle.dalvik_defs.specs.declared.script.Move.{Move}
use Rattle.dalvik_defs.specs.declared.program.NamedBody.{NamedBody}
use Rattle.dalvik_defs.specs.declared.program.NamedClass.{NamedClass}
use Rattle.dalvik_defs.specs.declared.program.NamedProgram.{NamedProgram}
use Rattle.dalvik_defs.specs.declared.tables.Framework.{Framework}
use Rattle.dalvik_defs.specs.declared.tables.Floats.{Floats}
use Rattle.dalvik_defs.proofs.Quiet.{trivial_quiet}
use Rattle.dalvik_defs.proofs.Simulation.{after_suc}
use Rattle.dalvik_defs.specs.Step.{step, after, setting_of}
use Rattle.pass_defs.specs.Loose.{staticised}
use Rattle.removal_law.specs.Left.{In, here}
use Rattle.removal_law.specs.Reach.{ends, IsRegular, TellsApart, IsDescribed, DefinesOnce, AgreesInside}
use Rattle.removal_law.proofs.Protos.{protos_told, told_apart}
use Rattle.removal_law.proofs.Lists.{clash, all_in}
use Rattle.removal_law.proofs.Levels.{enough_steps}
use Rattle.lemmas.proofs.Options.{some_same}
use Rattle.removal_law.proofs.Fits.{fit_names_none}
use Rattle.static_law.specs.Static.{IsSound, IsUnentered, Stands, AreApart, MayAllBeStatic, AreInTables, NamesDescribed, ReceiversKnown, ReceiversReached}
use Rattle.static_law.proofs.Given.{defined_in, in_old, sound as sound_names, not_kept}
use Rattle.static_law.proofs.Told.{static_told}
use Rattle.static_law.proofs.Declared.{itself}
use Rattle.static_law.proofs.Upright.{ends_within}
use Rattle.static_law.proofs.Sites.{staticised_shown}
use Rattle.static_law.proofs.Known.{site_known}
use Rattle.static_law.proofs.Reached.{unreached, reached_alike}

module _ (p : NamedProgram) (o : Outer) (methods : List MethodKey) (loose : MethodKey → Bool) (given : MayAllBeStatic p o methods loose) (in_tables : AreInTables p o methods)
    (regular : IsRegular p) (described : IsDescribed p) (names : NamesDescribed p) (once : DefinesOnce p) (inside : AgreesInside o) where
  sound : IsSound p loose
  sound = sound_names p o methods loose given in_tables

  tells : TellsApart p
  tells = told_apart p described once

  apart : AreApart p loose
  apart k c m l e i d v = (given k l).apart (subst (λ x. is_virtual_method x ≡ true) (sym same) v)
    where
      same : (given k l).method ≡ m
      same = some_same (given k l).method m
          (sym (defined_in p o methods loose given in_tables k l)
          ∙ ap (λ x. method_in x k.name k.signature) (some_same (given k l).class c (sym (given k l).named ∙ e))
          ∙ ap (λ x. method_in c x.name x.signature) (sym d) ∙ itself p loose sound tells k.class c m e i)

  unentered : (f : Framework) (script : List Move) → Fit p o f script → IsUnentered p o loose f
  unentered f script fit = record {
    free = λ k l. (given k l).free;
    free_new = not_kept p o methods loose given in_tables;
    unreached = unreached p loose f sound (fit_names_none p o f script fit) regular apart tells o inside (protos_told p described) (λ k l. (given k l).free);
    reached = λ t u c m e i l v. reached_alike p loose f sound (fit_names_none p o f script fit) regular apart tells o inside (protos_told p described) (λ k l. (given k l).free) (static_told p loose sound once described names) u c m e i l v (in_old p o methods loose given in_tables (key_in c m) (in_tables.defined u c m e i)) t;
  }

  stands : (f : Framework) (k : MethodKey) → loose k ≡ true → Stands p loose (quiet_within (face_of p f) (suc (length p.classes))) k
  stands f k l = record {
    class = (given k l).class;
    method = (given k l).method;
    named = (given k l).named;
    defined = defined_in p o methods loose given in_tables k l;
    coded = (given k l).coded;
    quiet = let g = regular.grounded k.class in trivial_quiet p f k.class (ends_within p (length p.classes) k.class (enough_steps p k.class g.0 g.1)) ((given k l).trivial);
  }

  -- a call of a frame stands in its body
  in_body : (g : Frame) (x : Form) → form_at (bodies_of p) g ≡ Some x → (b : NamedBody) × ((bodies_of p g.method ≡ Some b) × (slice_get b.forms g.position ≡ Some x))
  in_body g x e = by (bodies_of p g.method) refl e
    where
      by : (a : Option NamedBody) → bodies_of p g.method ≡ a → option_and_then (λ (b : NamedBody). slice_get b.forms g.position) a ≡ Some x → (b : NamedBody) × ((bodies_of p g.method ≡ Some b) × (slice_get b.forms g.position ≡ Some x))
      by None i d = clash false (ap is_some d) refl
      by (Some b) i d = (b, (i, d))

  -- the law of methods made static
  pub loose_shown : (J : Framework → Floats → List Move → State → Type 0)
      → ((f : Framework) (a : Floats) (script : List Move) → Fit p o f script → ReceiversKnown p loose o f a script (J f a script))
      → SameShown p (staticised p loose) o
  loose_shown J known = staticised_shown p loose o (suc (length p.classes)) J sound tells (static_told p loose sound once described names) stands
      (λ f a script fit. let r = known f a script fit in record {
        unentered = unentered f script fit;
        start = r.start;
        keeps = r.keeps;
        calls = λ w c g rest s kind k args j e. let b = in_body g (form.Invoke kind k args) e in
            site_known p loose f sound (fit_names_none p o f script fit) regular apart g.method.class (kind_of w (receiver (map (register g) args))) (is_null (receiver (map (register g) args))) k kind
            (λ x l d. ((given x l).calls g.method b.0 g.position kind k args b.1.0 b.1.1 d).1)
            (in_old p o methods loose given in_tables k (in_tables.called g.method b.0 g.position kind k args b.1.0 b.1.1))
            (λ h d l. r.receivers w c g rest s kind k args h j e d l);
      })

-- the law, by all states that a run comes to
pub static_shown : (p : NamedProgram) (o : Outer) (methods : List MethodKey) (loose : MethodKey → Bool) → MayAllBeStatic p o methods loose → AreInTables p o methods
    → IsRegular p → IsDescribed p → NamesDescribed p → DefinesOnce p → AgreesInside o → ((f : Framework) (a : Floats) (script : List Move) → Fit p o f script → ReceiversReached p loose o f a script) → SameShown p (staticised p loose) o
static_shown p o methods loose given in_tables regular described names once inside known =
    loose_shown p o methods loose given in_tables regular described names once inside
    (λ f a script t. (n : ℕ) × (after (setting_of p o f a) (bodies_of p) (calm_opening (quiet_within (face_of p f) (suc (length p.classes))) script) n ≡ t))
    (λ f a script fit. let z = setting_of p o f a in let b = bodies_of p in let t0 = calm_opening (quiet_within (face_of p f) (suc (length p.classes))) script in record {
      start = (0, refl);
      keeps = λ t j. (suc j.0, after_suc z b j.0 t0 ∙ ap (λ x. (step z b x).0) j.1);
      receivers = λ w c g rest s kind k args h j e d l. known f a script fit j.0 w c g rest s kind k args h j.1 e d l;
    })
