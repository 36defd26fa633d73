-- The law of inlining for calls of static methods of trivially initialised classes: nothing of facts is asked.
use Rattle.std.proofs.Common.{◌≡◌, ℕ, suc, true≢false, List, ◌∷◌, length, refl, sym, ap, ◌∙◌, subst}
use Rattle.std.specs.Prelude.{Option, Some, None, slice_get}
use Rattle.std.specs.Option.{option_and_then}
use Rattle.lemmas.proofs.Options.{none_some, some_same}
use Rattle.insn_set.specs.declared.ops.InvokeKind.TheVariants as call
use Rattle.dalvik_defs.specs.Flags.{is_static}
use Rattle.dalvik_defs.specs.Face.{face_of, bodies_of}
use Rattle.dalvik_defs.specs.Outer.{Outer}
use Rattle.dalvik_defs.specs.Quiet.{quiet_within}
use Rattle.dalvik_defs.specs.Shown.{SameShown}
use Rattle.dalvik_defs.specs.Stack.{form_at as form_here}
use Rattle.dalvik_defs.specs.declared.state.Frame.{Frame}
use Rattle.dalvik_defs.specs.declared.names.MethodKey.{MethodKey}
use Rattle.dalvik_defs.specs.declared.forms.Form.{Form}
use Rattle.dalvik_defs.specs.declared.forms.Form.TheVariants as form
use Rattle.dalvik_defs.specs.declared.program.NamedBody.{NamedBody}
use Rattle.dalvik_defs.specs.declared.program.NamedProgram.{NamedProgram}
use Rattle.dalvik_defs.specs.declared.tables.Framework.{Framework}
use Rattle.dalvik_defs.proofs.Quiet.{trivial_quiet}
use Rattle.pass_defs.specs.Walks.{form_at}
use Rattle.pass_defs.specs.Inlined.{Callee, callee_of, callee_at}
use Rattle.program_laws.specs.Others.{OtherBodies}
use Rattle.inline_law.specs.Entered.{Enterable, Statically, AcceptedIn, sites_in, sites_of}
use Rattle.inline_law.specs.Programs.{Inlines, IsInlining}
use Rattle.inline_law.specs.Sound.{Finding, FindsStatic, FindsDirect, IsSoundCaller, IsStaticInlining}
use Rattle.inline_law.proofs.Found.{callee_finds, at_site, sound_callee, reading}
use Rattle.inline_law.proofs.Inlining.{Any}
use Rattle.inline_law.proofs.Programs.{inlining_shown}

module _ (p q : NamedProgram) (accepted : AcceptedIn) (h : IsStaticInlining p accepted) (others : OtherBodies (Inlines p accepted) p q) where
  is_inlining : IsInlining p (reading p) accepted
  is_inlining = record {
    room = h.room;
    in_place = h.in_place;
    accepts = λ k b n ns e d. let s = subst (λ l. IsSoundCaller p k b l) d (h.sound k b e) in record {
      room = h.room k b e;
      in_place = h.in_place k b e;
      sites = s.sites;
      callees = λ m x y i j. sound_callee p k b (n ∷ ns) m x y i j (s.callees m y j);
      suits = s.suits;
    };
  }

  -- a site of a method, with its body
  record At (k : MethodKey) (n : ℕ) (y : Callee) : Type 0 where
    body : NamedBody
    has : bodies_of p k ≡ Some body
    site : callee_at p body (accepted k) n ≡ Some y
    form : Form
    here : form_at body n ≡ Some form
    finds : Finding p y form
    found : bodies_of p y.key ≡ Some y.body

  site_at : (k : MethodKey) (n : ℕ) (y : Callee) → sites_of p accepted k n ≡ Some y → At k n y
  site_at k n y e = by (bodies_of p k) refl e
    where
      by_form : (b : NamedBody) → bodies_of p k ≡ Some b → callee_at p b (accepted k) n ≡ Some y → (o : Option Form) → form_at b n ≡ o → callee_of p o ≡ Some y → At k n y
      by_form b d e None i j = none_some y j
      by_form b d e (Some x) i j = let f = callee_finds p x y j in record { body = b; has = d; site = e; form = x; here = i; finds = f.0; found = f.1 }

      by : (o : Option NamedBody) → bodies_of p k ≡ o → sites_in p (accepted k) o n ≡ Some y → At k n y
      by None d e = none_some y e
      by (Some b) d e = by_form b d e (form_at b n) refl (at_site p b (accepted k) n y e).1

  abbrev level : ℕ
  level = suc (length p.classes)

  here_form : (g : Frame) (k : MethodKey) (y : Callee) (a : At k g.position y) → g.method ≡ k → form_here (bodies_of p) g ≡ Some a.form
  here_form g k y a e = ap (λ z. option_and_then (λ b. slice_get b.forms g.position) z) (ap (bodies_of p) e ∙ a.has) ∙ a.here

  undirected : (k : MethodKey) (n : ℕ) (y : Callee) (a : At k n y) (j : MethodKey) (args : List ℕ) → a.form ≡ form.Invoke call.Direct j args → ⊥
  undirected k n y a j args e = (h.static k a.body a.has).undirected n y j args a.site (a.here ∙ ap Some e)

  static_call : (f : Framework) (k : MethodKey) (n : ℕ) (y : Callee) (a : At k n y) → (x : Form) → a.form ≡ x → Finding p y x → Enterable (face_of p f) (quiet_within (face_of p f) level) y x
  static_call f k n y a _ e (FindsStatic j g i s c q) = Statically j g i s c (ap is_static q ∙ (h.static k a.body a.has).static n y a.site)
      (ap (λ z. quiet_within (face_of p f) level z.class) s ∙ trivial_quiet p f y.key.class (h.ends y.key.class) ((h.static k a.body a.has).trivial n y a.site))
  static_call f k n y a _ e (FindsDirect j g i s c q) = absurd (undirected k n y a j y.args e)

  -- the law of inlining for static calls
  pub statics_shown : (o : Outer) → SameShown p q o
  statics_shown o = inlining_shown p q (reading p) accepted is_inlining others o level (λ f a script. Any)
      (λ f g y e. let a = site_at g.method g.position y e in (a.form, (here_form g g.method y a refl, static_call f g.method g.position y a a.form refl a.finds)))
      (λ f a script fit. (
        record {
          receivers = λ w c g rest script y k i e j. let a = site_at g.method g.position y e in
              absurd (undirected g.method g.position y a k y.args (some_same a.form (form.Invoke call.Direct k y.args) (sym (here_form g g.method y a refl) ∙ j)));
          wholes = λ w c g u rest script y t from i e m j d. let a = site_at u.method u.position y e in
              absurd (true≢false (sym d ∙ (h.static u.method a.body a.has).narrow u.position g.position y t from a.site
              (sym (ap (λ z. option_and_then (λ b. slice_get b.forms g.position) z) (ap (bodies_of p) m ∙ a.found)) ∙ j)));
          keeps = λ t i. tt;
        },
        tt,
      ))
