-- Calls whose receivers the facts know: each state of a run of a covered program has such an object in the first register.
use Rattle.std.proofs.Common.{◌≡◌, ℕ, false, List, ◌∷◌, Some, refl, sym, ap, ◌∙◌}
use Rattle.dalvik_defs.specs.Effect.{register}
use Rattle.dalvik_defs.specs.Face.{bodies_of}
use Rattle.dalvik_defs.specs.Happens.{Setting}
use Rattle.dalvik_defs.specs.Names.{Text}
use Rattle.dalvik_defs.specs.Outer.{Outer}
use Rattle.dalvik_defs.specs.Shown.{Fit, SameShown}
use Rattle.dalvik_defs.specs.State.{World, Classes, State, On, is_null, kind_of, opening}
use Rattle.dalvik_defs.specs.Step.{after, setting_of}
use Rattle.dalvik_defs.specs.declared.forms.Form.{Form}
use Rattle.dalvik_defs.specs.declared.names.MethodKey.{MethodKey}
use Rattle.dalvik_defs.specs.declared.program.NamedBody.{NamedBody}
use Rattle.dalvik_defs.specs.declared.program.NamedProgram.{NamedProgram}
use Rattle.dalvik_defs.specs.declared.script.Move.{Move}
use Rattle.dalvik_defs.specs.declared.state.Frame.{Frame}
use Rattle.dalvik_defs.specs.declared.state.Waiting.{Waiting}
use Rattle.dalvik_defs.specs.declared.state.Waiting.TheVariants.{Method}
use Rattle.dalvik_defs.specs.declared.tables.Floats.{Floats}
use Rattle.dalvik_defs.specs.declared.tables.Framework.{Framework}
use Rattle.pass_defs.specs.Analysis.{Analysis}
use Rattle.pass_defs.specs.Facts.{Facts}
use Rattle.pass_defs.specs.Walks.{form_at}
use Rattle.run_laws.specs.Holds.{Holds}
use Rattle.run_facts.specs.Covered.{CoversTop}
use Rattle.run_laws.specs.Regular.{IsRegular}
use Rattle.run_laws.specs.TypedStates.{IsObject, TypedFrame, TypedWorld}
use Rattle.run_laws.proofs.Runs.{settled}
use Rattle.run_laws.proofs.Searches.{finds_regularly}
use Rattle.run_laws.proofs.Settled.{IsSettled, FindsRegularly}
use Rattle.cover_law.specs.Coverable.{IsCoverable}
use Rattle.cover_law.specs.States.{covered_states}
use Rattle.cover_law.proofs.Runs.{covered_regular}
use Rattle.rebind_law.specs.Rebinding.{FindBoth, Rebinds}
use Rattle.rebind_law.specs.Receivers.{BoundByFacts, AreChanged}
use Rattle.rebind_law.proofs.Listed.{listed_virtually}
use Rattle.rebind_law.proofs.Receiving.{in_register, object_reference, own_at, is_object}
use Rattle.rebind_law.proofs.ByClass.{Reached, reached_on, going, rebound_bodies}
use Rattle.rebind_law.proofs.Rebinding.{rebound_shown}

module _ {V : Type 0} (an : Analysis V) (p : NamedProgram) (o : Outer) (f : Framework) (a : Floats) (facts : Facts V) (script : List Move) (base : IsCoverable an p o f a facts) (fit : Fit p o f script) where
  abbrev regular : IsRegular p
  regular = base.tabled.regular

  reg : IsSettled p
  reg = settled p o f script base.tabled.regular fit

  finds : FindsRegularly p f
  finds = finds_regularly p f reg

  abbrev s : Setting
  s = setting_of p o f a

  abbrev Covered : State → Type 0
  Covered = Holds (covered_states an p o f facts)

  pub binds : (k : MethodKey) (b : NamedBody) (n : ℕ) (x x' : Form) → bodies_of p k ≡ Some b → form_at b n ≡ Some x → BoundByFacts an p facts k n x x' → Rebinds s (Reached p o f a script) k n x x'
  binds k b n x x' e i h = record {
    kind = h.call.kind;
    kind' = h.call.kind';
    old = h.call.old;
    new = h.call.new;
    args = h.call.on ∷ h.call.args;
    first = h.call.first;
    second = h.call.second;
    virtual = h.call.virtual;
    virtual' = h.call.virtual';
    finds = λ w c g rest script' r m q some. in_state w c g rest script' (going Covered w c (Method g ∷ rest) script' (after s (bodies_of p) (opening script) r.0) r.1 (covered_regular an p o f a facts script r.0 base fit)) m q some;
  }
    where
      in_state : (w : World) (c : Classes) (g : Frame) (rest : List Waiting) (script' : List Move) → Covered (On w c (Method g ∷ rest) script') → g.method ≡ k → g.position ≡ n → is_null (register g h.call.on) ≡ false
          → FindBoth s h.call.old h.call.new (kind_of w (register g h.call.on))
      in_state w c g rest script' holds m q some =
          let z = h.finds top.stands.registers kind (register g h.call.on) (ap (λ k. facts.registers k n) (sym m) ∙ (ap (facts.registers g.method) (sym q) ∙ top.stands.reached)) (object_reference w (register g h.call.on) object)
          (top.stands.hold h.call.on (register g h.call.on) (in_register g.registers h.call.on some)) in
          record {
            found = h.found;
            coded = h.coded;
            first = listed_virtually p f base.tabled.regular.class_types kind h.call.old h.found z.0 h.call.old_type z.1.first;
            second = listed_virtually p f base.tabled.regular.class_types kind h.call.new h.found z.0 h.call.new_type z.1.second;
          }
        where
          tw : TypedWorld p f w
          tw = holds.0.0.0.0

          t : TypedFrame p f w g
          t = holds.1.0.0.0.0

          top : CoversTop an p o facts w g
          top = holds.1.0.1

          kind : Text
          kind = kind_of w (register g h.call.on)

          object : IsObject w (register g h.call.on)
          object = is_object p o f a reg finds w c g tw t x x' h.call (own_at p o f a reg finds w c g tw t b x (ap (bodies_of p) m ∙ e) (ap (form_at b) q ∙ i)) some

-- a program in which calls name another method that all find of which the facts know their receivers
pub by_facts_shown : {V : Type 0} (an : Analysis V) (p q : NamedProgram) (o : Outer) (facts : Facts V) → ((f : Framework) (a : Floats) (script : List Move) → Fit p o f script → IsCoverable an p o f a facts)
    → AreChanged (BoundByFacts an p facts) p q → SameShown p q o
by_facts_shown an p q o facts base h = rebound_shown p q o (Reached p o) (record {
  face = h.face;
  bodies = λ f a script fit. record {
    none = h.none;
    some = h.some;
    bodies = λ k b d e i. rebound_bodies (setting_of p o f a) (Reached p o f a script) k (BoundByFacts an p facts k) b d (λ n x x' j z. binds an p o f a facts script (base f a script fit) fit k b n x x' e j z) (h.bodies k b d e i);
    keeps = λ t r. reached_on p o f a script t r;
  };
  begins = λ f a script fit. (0, refl);
})
