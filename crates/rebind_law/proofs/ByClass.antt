-- Calls of methods of plain classes: in every state of a run of a typed program their receivers stand under the class.
use Rattle.std.proofs.Common.{◌≡◌, ℕ, suc, Bool, true, false, true≢false, length, List, [], ◌∷◌, Option, Some, None, ◌⊎◌, inl, inr, refl, sym, ap, ◌∙◌, subst}
use Rattle.std.specs.Prelude.{Contains}
use Rattle.dalvik_defs.specs.Effect.{register}
use Rattle.dalvik_defs.specs.Face.{bodies_of}
use Rattle.dalvik_defs.specs.Happens.{Setting}
use Rattle.dalvik_defs.specs.Find.{Found}
use Rattle.dalvik_defs.specs.Names.{Text, object_type, is_class_type}
use Rattle.dalvik_defs.specs.Outer.{Outer}
use Rattle.dalvik_defs.specs.Shown.{Fit, SameShown}
use Rattle.dalvik_defs.specs.State.{World, Classes, State, On, Ended, Instance, is_null, kind_of, kind_of_thing, thing_at, opening}
use Rattle.dalvik_defs.specs.Step.{after, setting_of, step}
use Rattle.dalvik_defs.specs.Under.{class_named, defines, is_under, is_own_under}
use Rattle.dalvik_defs.specs.declared.forms.Form.{Form}
use Rattle.dalvik_defs.specs.declared.names.MethodKey.{MethodKey}
use Rattle.dalvik_defs.specs.declared.program.NamedBody.{NamedBody}
use Rattle.dalvik_defs.specs.declared.program.NamedClass.{NamedClass}
use Rattle.dalvik_defs.specs.declared.program.NamedProgram.{NamedProgram}
use Rattle.dalvik_defs.specs.declared.script.Move.{Move}
use Rattle.dalvik_defs.specs.declared.state.Frame.{Frame}
use Rattle.dalvik_defs.specs.declared.state.Value.{Value}
use Rattle.dalvik_defs.specs.declared.state.Value.TheVariants.{Object}
use Rattle.dalvik_defs.specs.declared.names.FieldKey.{FieldKey}
use Rattle.dalvik_defs.specs.declared.state.Waiting.{Waiting}
use Rattle.dalvik_defs.specs.declared.state.Waiting.TheVariants.{Method}
use Rattle.dalvik_defs.specs.declared.tables.Floats.{Floats}
use Rattle.dalvik_defs.specs.declared.tables.Framework.{Framework}
use Rattle.dalvik_defs.proofs.Calm.{text_sound}
use Rattle.dalvik_defs.proofs.Simulation.{after_suc}
use Rattle.pass_defs.specs.Kinds.{is_plain}
use Rattle.pass_defs.specs.Walks.{form_at}
use Rattle.run_laws.specs.Holds.{Holds}
use Rattle.run_laws.specs.Regular.{IsRegular}
use Rattle.run_laws.specs.TypedStates.{IsObject, TypedFrame, TypedWorld, typed_states}
use Rattle.run_laws.proofs.Here.{At}
use Rattle.run_laws.proofs.Climbs.{class_in, name_of, plain_defined, defined_below, none_some}
use Rattle.run_laws.proofs.Values.{instance_thing}
use Rattle.run_laws.proofs.Worlds.{at_typed}
use Rattle.run_laws.proofs.Runs.{settled, typed_regular}
use Rattle.run_laws.proofs.Searches.{finds_regularly}
use Rattle.run_laws.proofs.Settled.{IsSettled, FindsRegularly}
use Rattle.removal_law.specs.Left.{NamesNone}
use Rattle.removal_law.specs.Reach.{IsAcyclic}
use Rattle.removal_law.specs.Reach as reach
use Rattle.removal_law.proofs.Acyclic.{regular as upright}
use Rattle.removal_law.proofs.Fits.{fit_names_none}
use Rattle.removal_law.proofs.Outward.{Up, inside, through, object, under_up}
use Rattle.rebind_law.specs.Rebinding.{FindBoth, Rebinds, Becomes, Same, Other, IsRebound}
use Rattle.rebind_law.specs.Receivers.{FindsListed, Renames, BoundByClass, IsChanged, AreChanged}
use Rattle.rebind_law.proofs.Listed.{listed_virtually}
use Rattle.rebind_law.proofs.Receiving.{own_at, is_object, stands_under}
use Rattle.rebind_law.proofs.Rebinding.{rebound_shown}

-- a class of the program that stands above another one does so by the program's own lists
own_under : (p : NamedProgram) (f : Framework) → NamesNone p f → reach.IsRegular p → (t u : Text) → defines p t ≡ true → defines p u ≡ true → is_under p f t u ≡ true → is_own_under p t u ≡ true
own_under p f none upright t u d e i = by (under_up p f none upright t u d i)
  where
    by : Up p f none upright (length p.classes) t u → is_own_under p t u ≡ true
    by (inside j) = j
    by (through j away) = absurd (true≢false (sym e ∙ away))
    by (object j) = absurd (true≢false (sym e ∙ (ap (defines p) (text_sound u object_type j) ∙ none.object)))

-- the states of a run
abbrev pub Reached : NamedProgram → Outer → Framework → Floats → List Move → State → Type 0
Reached p o f a script t = (n : ℕ) × (t ≡ after (setting_of p o f a) (bodies_of p) (opening script) n)

pub reached_on : (p : NamedProgram) (o : Outer) (f : Framework) (a : Floats) (script : List Move) (t : State) → Reached p o f a script t → Reached p o f a script (step (setting_of p o f a) (bodies_of p) t).0
reached_on p o f a script t h = (suc h.0, ap (λ x. (step (setting_of p o f a) (bodies_of p) x).0) h.1 ∙ sym (after_suc (setting_of p o f a) (bodies_of p) h.0 (opening script)))

abbrev IsOn : State → Type 0
IsOn (On w c stack script) = Unit {0}
IsOn Ended = ⊥

-- a state with a stack hasn't ended
pub going : (P : State → Type 0) (w : World) (c : Classes) (stack : List Waiting) (script : List Move) (t : State) → On w c stack script ≡ t → (t ≡ Ended) ⊎ P t → P (On w c stack script)
going P w c stack script t e (inl i) = absurd (subst IsOn (e ∙ i) tt)
going P w c stack script t e (inr h) = subst P (sym e) h

-- bodies that are changed so are rebound
pub rebound_bodies : (s : Setting) (I : State → Type 0) (k : MethodKey) (B : ℕ → Form → Form → Type 0) (b d : NamedBody) → ((n : ℕ) (f f' : Form) → form_at b n ≡ Some f → B n f f' → Rebinds s I k n f f') → IsChanged B b d → IsRebound s I k b d
rebound_bodies s I k B b d to h = record {
  forms = λ n f e. let r = h.forms n f e in (r.0, (r.1.0, by n f r.0 e r.1.1));
  ends = h.ends;
  regions = h.regions;
  registers = h.registers;
  ins = h.ins;
}
  where
    by : (n : ℕ) (f f' : Form) → form_at b n ≡ Some f → (f' ≡ f) ⊎ B n f f' → Becomes s I k n f f'
    by n f f' e (inl i) = Same i
    by n f f' e (inr i) = Other (to n f f' e i)

-- what the program's class of a kind finds by its own lists, an object of this kind finds
pub both_listed : (p : NamedProgram) (f : Framework) (a : Floats) (o : Outer) → ((t : Text) → defines p t ≡ true → is_class_type t ≡ true) → (kind : Text) (old new : MethodKey) (found : Found) → found.coded ≡ true → is_class_type old.class ≡ true → is_class_type new.class ≡ true
    → defines p kind ≡ true → ((u : NamedClass) → Contains p.classes u → u.name ≡ kind → FindsListed p old new found u.name) → FindBoth (setting_of p o f a) old new kind
both_listed p f a o types kind old new found coded i j there finds = both (class_named p kind) refl
  where
    both : (y : Option NamedClass) → class_named p kind ≡ y → FindBoth (setting_of p o f a) old new kind
    both (Some u) e =
        let name : u.name ≡ kind = name_of p kind u e in
        let z : FindsListed p old new found kind = subst (FindsListed p old new found) name (finds u (class_in p kind u e) name) in
        record {
          found = found;
          coded = coded;
          first = listed_virtually p f types kind old found there i z.first;
          second = listed_virtually p f types kind new found there j z.second;
        }
    both None e = let z : false ≡ true = sym (ap (λ y. elim y as (λ y. Bool) [ Some c ↦ true | None ↦ false ]) e) ∙ there in absurd (cc)

module _ (p : NamedProgram) (o : Outer) (f : Framework) (a : Floats) (script : List Move) (regular : IsRegular p) (acyclic : IsAcyclic p) (fit : Fit p o f script) where
  pub reg : IsSettled p
  reg = settled p o f script regular fit

  pub finds : FindsRegularly p f
  finds = finds_regularly p f reg

  abbrev s : Setting
  s = setting_of p o f a

  -- an object that is under a class of the program is of one
  defined_under : (w : World) → TypedWorld p f w → (v : Value) (u : Text) → IsObject w v → is_under p f (kind_of w v) u ≡ true → defines p u ≡ true → defines p (kind_of w v) ≡ true
  defined_under w tw v u there e d = by v (instance_thing p f reg w tw v u there d e) e
    where
      by : (v : Value) → (c : Text) × ((fs : FieldKey → Option Value) × (thing_at w v ≡ Some (Instance c fs))) → is_under p f (kind_of w v) u ≡ true → defines p (kind_of w v) ≡ true
      by (Object n) (c, (fs, at)) e = let kind : kind_of w (Object n) ≡ c = ap (λ y. elim y as (λ y. Text) [ Some th ↦ kind_of_thing th | None ↦ [] ]) at in
          subst (λ k. defines p k ≡ true) (sym kind) (defined_below p f reg c u (at_typed p f w (Object n) (Instance c fs) tw at).0 d (subst (λ k. is_under p f k u ≡ true) kind e))
      by v (c, (fs, at)) e = none_some (Instance c fs) at

  -- the receiver of a call of a method of a plain class is of a class under it by the program's own lists
  pub received : (w : World) (c : Classes) (g : Frame) (tw : TypedWorld p f w) (t : TypedFrame p f w g) (x x' : Form) (call : Renames x x') → At p o f a reg w g t x → is_null (register g call.on) ≡ false → is_plain p call.old.class ≡ true
      → (defines p (kind_of w (register g call.on)) ≡ true) × (is_own_under p (kind_of w (register g call.on)) call.old.class ≡ true)
  received w c g tw t x x' call own_form some plain = (there, own_under p f (fit_names_none p o f script fit) (upright p acyclic regular.class_types) kind call.old.class there plain_there under)
    where
      kind : Text
      kind = kind_of w (register g call.on)

      under : is_under p f kind call.old.class ≡ true
      under = stands_under p o f a reg finds w c g tw t x x' call own_form some plain

      plain_there : defines p call.old.class ≡ true
      plain_there = plain_defined p call.old.class plain

      there : defines p kind ≡ true
      there = defined_under w tw (register g call.on) call.old.class (is_object p o f a reg finds w c g tw t x x' call own_form some) under plain_there

  binds : (k : MethodKey) (b : NamedBody) (n : ℕ) (x x' : Form) → bodies_of p k ≡ Some b → form_at b n ≡ Some x → BoundByClass p x x' → Rebinds s (Reached p o f a script) k n x x'
  binds k b n x x' e i h = record {
    kind = h.call.kind;
    kind' = h.call.kind';
    old = h.call.old;
    new = h.call.new;
    args = h.call.on ∷ h.call.args;
    first = h.call.first;
    second = h.call.second;
    virtual = h.call.virtual;
    virtual' = h.call.virtual';
    finds = λ w c g rest script' r m q some. in_state w c g rest script' (going (Holds (typed_states p f o)) w c (Method g ∷ rest) script' (after s (bodies_of p) (opening script) r.0) r.1 (typed_regular p o f a script r.0 regular fit)) m q some;
  }
    where
      in_state : (w : World) (c : Classes) (g : Frame) (rest : List Waiting) (script' : List Move) → Holds (typed_states p f o) (On w c (Method g ∷ rest) script') → g.method ≡ k → g.position ≡ n → is_null (register g h.call.on) ≡ false
          → FindBoth s h.call.old h.call.new (kind_of w (register g h.call.on))
      in_state w c g rest script' holds m q some = both_listed p f a o regular.class_types kind h.call.old h.call.new h.found h.coded h.call.old_type h.call.new_type r.0 (λ u i e. h.finds u i (ap (λ y. is_own_under p y h.call.old.class) e ∙ r.1))
        where
          kind : Text
          kind = kind_of w (register g h.call.on)

          r : (defines p kind ≡ true) × (is_own_under p kind h.call.old.class ≡ true)
          r = received w c g holds.0 holds.1.0 x x' h.call (own_at p o f a reg finds w c g holds.0 holds.1.0 b x (ap (bodies_of p) m ∙ e) (ap (form_at b) q ∙ i)) some h.plain

-- a program in which calls of methods of plain classes name another method that all classes under these find
pub by_class_shown : (p q : NamedProgram) (o : Outer) → IsRegular p → IsAcyclic p → AreChanged (λ k n. BoundByClass p) p q → SameShown p q o
by_class_shown p q o regular acyclic h = rebound_shown p q o (Reached p o) (record {
  face = h.face;
  bodies = λ f a script fit. record {
    none = h.none;
    some = h.some;
    bodies = λ k b d e i. rebound_bodies (setting_of p o f a) (Reached p o f a script) k (λ n. BoundByClass p) b d (λ n x x' j z. binds p o f a script regular acyclic fit k b n x x' e j z) (h.bodies k b d e i);
    keeps = λ t r. reached_on p o f a script t r;
  };
  begins = λ f a script fit. (0, refl);
})
