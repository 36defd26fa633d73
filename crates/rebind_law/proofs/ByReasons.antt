-- Calls that name another method for reasons, some by facts and some by the kinds of receivers: one program shows what the other
-- shows, and is typed.
use Rattle.std.proofs.Common.{◌≡◌, ℕ, false, List, ◌∷◌, Option, Some, None, ◌⊎◌, inl, inr, refl, sym, ap, ◌∙◌, subst, subst₂}
use std.Path.{path_j}
use Rattle.std.specs.Prelude.{slice_get, Contains}
use Rattle.std.specs.Option.{option_and_then}
use Rattle.dalvik_defs.specs.Effect.{register}
use Rattle.dalvik_defs.specs.Face.{bodies_of}
use Rattle.dalvik_defs.specs.Find.{defined_method}
use Rattle.dalvik_defs.specs.Happens.{Setting}
use Rattle.dalvik_defs.specs.Names.{Text}
use Rattle.dalvik_defs.specs.Outer.{Outer}
use Rattle.dalvik_defs.specs.Shown.{Fit, SameShown}
use Rattle.dalvik_defs.specs.Silence.{key_in}
use Rattle.dalvik_defs.specs.Stack as machine
use Rattle.dalvik_defs.specs.State.{World, Classes, State, On, is_null, kind_of, opening}
use Rattle.dalvik_defs.specs.Step.{after, setting_of}
use Rattle.dalvik_defs.specs.Under.{class_named, is_own_under}
use Rattle.dalvik_defs.specs.declared.forms.Form.{Form}
use Rattle.dalvik_defs.specs.declared.forms.Form.TheVariants as form
use Rattle.dalvik_defs.specs.declared.names.MethodKey.{MethodKey}
use Rattle.dalvik_defs.specs.declared.program.NamedBody.{NamedBody}
use Rattle.dalvik_defs.specs.declared.program.NamedClass.{NamedClass}
use Rattle.dalvik_defs.specs.declared.program.NamedMethod.{NamedMethod}
use Rattle.dalvik_defs.specs.declared.program.NamedProgram.{NamedProgram}
use Rattle.dalvik_defs.specs.declared.script.Move.{Move}
use Rattle.dalvik_defs.specs.declared.state.Frame.{Frame}
use Rattle.dalvik_defs.specs.declared.state.Waiting.{Waiting}
use Rattle.dalvik_defs.specs.declared.state.Waiting.TheVariants.{Method}
use Rattle.dalvik_defs.specs.declared.tables.Floats.{Floats}
use Rattle.dalvik_defs.specs.declared.tables.Framework.{Framework}
use Rattle.domains.specs.Values.{Parts}
use Rattle.pass_defs.specs.Facts.{Facts}
use Rattle.pass_defs.specs.Kinds.{Class}
use Rattle.pass_defs.specs.Registers.{Kinds, kind_at}
use Rattle.pass_defs.specs.Typed.{Table, state_at, IsTyping, IsTyped}
use Rattle.pass_defs.specs.Walks.{form_at}
use Rattle.run_laws.specs.Holds.{Holds}
use Rattle.removal_law.specs.Reach.{IsAcyclic}
use Rattle.run_facts.specs.ValueAnalysis.{Numbers, value_analysis}
use Rattle.cover_law.specs.Coverable.{IsCoverable}
use Rattle.run_laws.specs.Regular.{IsRegular}
use Rattle.run_laws.specs.TypedStates.{typed_states}
use Rattle.run_laws.proofs.Climbs.{none_some, some_one}
use Rattle.program_laws.specs.Others.{OtherBodies}
use Rattle.program_laws.proofs.Faces.{others_face}
use Rattle.program_laws.proofs.Found.{others_found}
use Rattle.program_laws.proofs.Named.{others_weaker}
use Rattle.rebind_law.specs.Rebinding.{FindBoth, Rebinds, Becomes, Same, Other, IsRebound, AreRebound}
use Rattle.rebind_law.specs.Receivers.{BoundByPlaces}
use Rattle.rebind_law.specs.Retyping.{Retypes, IsRetyped, Retyped}
use Rattle.rebind_law.specs.Retyping as retyping
use Rattle.rebind_law.proofs.ByClass.{Reached, reached_on, going, both_listed}
use Rattle.rebind_law.proofs.ByFacts.{binds}
use Rattle.rebind_law.proofs.Places.{by_places}
use Rattle.rebind_law.proofs.Rebinding.{rebound_shown}
use Rattle.rebind_law.proofs.Retyping.{retyped_program}
use Rattle.rebind_law.specs.Asking.{Asks, AskedCall, KnowsReceivers, AreAsked, asking_program}
use Rattle.rebind_law.specs.Reasons.{BoundByKind, Reason, ByFacts, ByKind, Rebound, ReboundBody, ReboundCode, NoCode, Kept, Changed}
use Rattle.rebind_law.proofs.Keeping.{asking_holds, receiver_asked}

module _ (used : Type 0) (p q : NamedProgram) (t : Facts Parts) (regular : IsRegular p) (others : OtherBodies (ReboundCode used p t) p q) where
  abbrev R : MethodKey → Option NamedBody → Option NamedBody → Type 0
  R = ReboundCode used p t

  found : (k : MethodKey) → R k (bodies_of p k) (bodies_of q k)
  found k = others_found R (λ k. NoCode) p q others k

  -- ---- what is asked for: the classes of receivers that kinds know

  abbrev of_reason : (table : Table) (k : MethodKey) (n : ℕ) (f f' : Form) → Reason used p t table k n f f' → Option Text
  of_reason table k n f f' (ByFacts u h) = None
  of_reason table k n f f' (ByKind h) = Some h.class

  abbrev of_form : (table : Table) (k : MethodKey) (n : ℕ) (f f' : Form) → (f' ≡ f) ⊎ Rebound used p t table k n f f' → Option Text
  of_form table k n f f' (inl e) = None
  of_form table k n f f' (inr r) = of_reason table k n f f' r.reason

  module _ (c : NamedClass) (m : NamedMethod) (b d : NamedBody) (h : ReboundBody used p t c m b d) (n : ℕ) where
    abbrev at_form : (o : Option Form) → form_at b n ≡ o → Option Text
    at_form None e = None
    at_form (Some f) e = of_form h.table (key_in c m) n f (h.changed.forms n f e).0 (h.changed.forms n f e).1.1

    abbrev at_position : Option Text
    at_position = at_form (form_at b n) refl

    -- it doesn't matter how the form is known
    at_known : (f : Form) (e : form_at b n ≡ Some f) → at_position ≡ at_form (Some f) e
    at_known f e = path_j (λ o i. at_position ≡ at_form o i) refl e

    -- what is asked for at a position is the class of a receiver's kind
    record IsKnown (u : Text) (f : Form) : Type 0 where
      form : Form
      bound : BoundByKind p h.table n f form
      is : bound.class ≡ u

    is_known : (u : Text) (f : Form) → form_at b n ≡ Some f → at_position ≡ Some u → IsKnown u f
    is_known u f e i = by (h.changed.forms n f e).0 (h.changed.forms n f e).1.1 (sym (at_known f e) ∙ i)
      where
        reasoned : (f' : Form) (r : Reason used p t h.table (key_in c m) n f f') → of_reason h.table (key_in c m) n f f' r ≡ Some u → IsKnown u f
        reasoned f' (ByFacts x y) j = none_some u j
        reasoned f' (ByKind y) j = record { form = f'; bound = y; is = some_one y.class u j }

        by : (f' : Form) (z : (f' ≡ f) ⊎ Rebound used p t h.table (key_in c m) n f f') → of_form h.table (key_in c m) n f f' z ≡ Some u → IsKnown u f
        by f' (inl x) j = none_some u j
        by f' (inr r) j = reasoned f' r.reason j

    known_call : (u : Text) (f : Form) → IsKnown u f → AskedCall p u f
    known_call u f k = subst (λ u. AskedCall p u f) k.is (record {
      kind = k.bound.call.kind;
      key = k.bound.call.old;
      on = k.bound.call.on;
      args = k.bound.call.args;
      is = k.bound.call.first;
      virtual = k.bound.call.virtual;
      key_type = k.bound.call.old_type;
      ordinary = k.bound.call.plain_name;
      plain = k.bound.plain;
      found = k.bound.found;
      coded = k.bound.coded;
      finds = λ v i e. (k.bound.finds v i e).first;
    })

    abbrev first_register : Form → ℕ
    first_register (form.Invoke kind k (r ∷ rs)) = r
    first_register f = 0

    known_kind : (u : Text) (f : Form) → IsKnown u f → (a : Kinds) (call : AskedCall p u f) → state_at h.table n ≡ Some a → kind_at a.registers call.on ≡ Class u
    known_kind u f k a call s = ap (kind_at a.registers) (ap first_register (sym call.is ∙ k.bound.call.first)) ∙ (k.bound.known a s ∙ ap Class k.is)

  abbrev at_code : (k : MethodKey) (x y : Option NamedBody) → R k x y → ℕ → Option Text
  at_code k _ _ NoCode n = None
  at_code k _ _ (Kept b) n = None
  at_code k _ _ (Changed c m b d i j e has h) n = at_position c m b d h n

  abbrev asks : Asks
  asks k n = at_code k (bodies_of p k) (bodies_of q k) (found k) n

  -- ---- so it is known

  calls : (k : MethodKey) (b : NamedBody) (n : ℕ) (f : Form) (u : Text) → bodies_of p k ≡ Some b → form_at b n ≡ Some f → asks k n ≡ Some u → AskedCall p u f
  calls k b n f u e i j = by (bodies_of p k) (bodies_of q k) (found k) e j
    where
      by : (x y : Option NamedBody) (r : R k x y) → x ≡ Some b → at_code k x y r n ≡ Some u → AskedCall p u f
      by _ _ NoCode z w = none_some u w
      by _ _ (Kept a) z w = none_some u w
      by _ _ (Changed c m a d x y v has h) z w = known_call c m a d h n u f (is_known c m a d h n u f (ap (λ (b : NamedBody). form_at b n) (some_one a b z) ∙ i) w)

  -- a class and a method of it by the name that it has
  same_class : (c d : NamedClass) (m x : NamedMethod) → Contains p.classes c → Contains p.classes d → key_in c m ≡ key_in d x → c ≡ d
  same_class c d m x i j e = some_one c d (sym (regular.named c i) ∙ (ap (λ k. class_named p k.class) e ∙ regular.named d j))

  same_method : (c d : NamedClass) (m x : NamedMethod) → Contains p.classes c → Contains p.classes d → Contains c.methods m → Contains d.methods x → key_in c m ≡ key_in d x → m ≡ x
  same_method c d m x i j y z e = some_one m x (sym (regular.methods c m i y) ∙ (ap (defined_method p) e ∙ regular.methods d x j z))

  knows : (c : NamedClass) (m : NamedMethod) (b : NamedBody) → Contains p.classes c → Contains c.methods m → m.body ≡ Some b → KnowsReceivers p (asks (key_in c m)) c m b
  knows c m b i j e = by (bodies_of p (key_in c m)) (bodies_of q (key_in c m)) (found (key_in c m)) (λ n. refl) (ap (option_and_then (λ (m : NamedMethod). m.body)) (regular.methods c m i j) ∙ e)
    where
      still : ((n : ℕ) → asks (key_in c m) n ≡ None) → KnowsReceivers p (asks (key_in c m)) c m b
      still none = let r = regular.typed.bodies c m b i j e in record { table = r.0; typing = r.1; known = λ n f u a call at asked s. none_some u (sym (none n) ∙ asked) }

      by : (x y : Option NamedBody) (r : R (key_in c m) x y) → ((n : ℕ) → asks (key_in c m) n ≡ at_code (key_in c m) x y r n) → x ≡ Some b → KnowsReceivers p (asks (key_in c m)) c m b
      by _ _ NoCode same z = still same
      by _ _ (Kept a) same z = still same
      by _ _ (Changed d x a a1 ci mi is has h) same z = record {
        table = h.table;
        typing = subst (λ b. IsTyping p c m b h.table) code (subst (λ m. IsTyping p c m a h.table) (sym (same_method c d m x i ci j mi is)) (subst (λ c. IsTyping p c x a h.table) (sym (same_class c d m x i ci is)) h.typing));
        known = λ n f u y call at asked s. known_kind d x a a1 h n u f (is_known d x a a1 h n u f (ap (λ (b : NamedBody). form_at b n) code ∙ at) (sym (same n) ∙ asked)) y call s;
      }
        where
          code : a ≡ b
          code = some_one a b z

  are_asked : AreAsked p asks
  are_asked = record { calls = calls; typed = knows }

  -- ---- in each state of a run the receivers find one method

  module _ (acyclic : IsAcyclic p) (o : Outer) (numbers : Numbers) (base : used → (f : Framework) (a : Floats) (script : List Move) → Fit p o f script → IsCoverable (value_analysis p numbers) p o f a t)
      (f : Framework) (a : Floats) (script : List Move) (fit : Fit p o f script) where
    abbrev s : Setting
    s = setting_of p o f a

    abbrev I : State → Type 0
    I = Reached p o f a script

    binds_kind : (table : Table) (k : MethodKey) (b : NamedBody) (n : ℕ) (x x' : Form) → bodies_of p k ≡ Some b → form_at b n ≡ Some x → (h : BoundByKind p table n x x') → asks k n ≡ Some h.class → Rebinds s I k n x x'
    binds_kind table k b n x x' e i h u = record {
      kind = h.call.kind;
      kind' = h.call.kind';
      old = h.call.old;
      new = h.call.new;
      args = h.call.on ∷ h.call.args;
      first = h.call.first;
      second = h.call.second;
      virtual = h.call.virtual;
      virtual' = h.call.virtual';
      finds = λ w c g rest script' r m q some. in_state w c g rest script'
          (going (Holds (typed_states (asking_program asks p) f o)) w c (Method g ∷ rest) script' (after s (bodies_of p) (opening script) r.0) r.1 (asking_holds p o f a script regular acyclic fit asks are_asked r.0)) m q some;
    }
      where
        in_state : (w : World) (c : Classes) (g : Frame) (rest : List Waiting) (script' : List Move) → Holds (typed_states (asking_program asks p) f o) (On w c (Method g ∷ rest) script') → g.method ≡ k → g.position ≡ n → is_null (register g h.call.on) ≡ false
            → FindBoth s h.call.old h.call.new (kind_of w (register g h.call.on))
        in_state w c g rest script' holds m q some =
            let at : machine.form_at (bodies_of p) g ≡ Some x = ap (option_and_then (λ (b : NamedBody). slice_get b.forms g.position)) (ap (bodies_of p) m ∙ e) ∙ (ap (form_at b) q ∙ i) in
            let asked : asks g.method g.position ≡ Some h.class = ap (λ k. asks k g.position) m ∙ (ap (asks k) q ∙ u) in
            let r = receiver_asked p o f a script regular acyclic fit asks are_asked w c g holds.0 holds.1.0 h.class x at asked h.call.on h.call.args h.call.kind h.call.old h.call.first some in
            both_listed p f a o regular.class_types (kind_of w (register g h.call.on)) h.call.old h.call.new h.found h.coded h.call.old_type h.call.new_type r.0
            (λ v y z. h.finds v y (ap (λ y. is_own_under p y h.class) z ∙ r.1))

    module _ (c : NamedClass) (m : NamedMethod) (b d : NamedBody) (h : ReboundBody used p t c m b d) (k : MethodKey) (is : k ≡ key_in c m) (has : bodies_of p k ≡ Some b) (same : (n : ℕ) → asks k n ≡ at_position c m b d h n) where
      becomes : (n : ℕ) (x x' : Form) → form_at b n ≡ Some x → (z : (x' ≡ x) ⊎ Rebound used p t h.table (key_in c m) n x x') → asks k n ≡ of_form h.table (key_in c m) n x x' z → Becomes s I k n x x'
      becomes n x x' e (inl i) q = Same i
      becomes n x x' e (inr r) q = Other (by r.reason q)
        where
          by : (y : Reason used p t h.table (key_in c m) n x x') → asks k n ≡ of_reason h.table (key_in c m) n x x' y → Rebinds s I k n x x'
          by (ByFacts u y) q = binds (value_analysis p numbers) p o f a t script (base u f a script fit) fit k b n x x' has e
              (by_places p numbers t k n x x' (subst (λ k. BoundByPlaces p t k n x x') (sym is) y))
          by (ByKind y) q = binds_kind h.table k b n x x' has e y q

      rebound : IsRebound s I k b d
      rebound = record {
        forms = λ n x e. let r = h.changed.forms n x e in (r.0, (r.1.0, becomes n x r.0 e r.1.1 (same n ∙ at_known c m b d h n x e)));
        ends = h.changed.ends;
        regions = h.changed.regions;
        registers = h.changed.registers;
        ins = h.changed.ins;
      }

    still : (k : MethodKey) (b : NamedBody) → IsRebound s I k b b
    still k b = record { forms = λ n x e. (x, (e, Same refl)); ends = λ n e. e; regions = refl; registers = refl; ins = refl }

    body : (k : MethodKey) (b d : NamedBody) → bodies_of p k ≡ Some b → bodies_of q k ≡ Some d → IsRebound s I k b d
    body k b d e i = by (bodies_of p k) (bodies_of q k) (found k) e e i (λ n. refl)
      where
        by : (x y : Option NamedBody) (r : R k x y) → bodies_of p k ≡ Some b → x ≡ Some b → y ≡ Some d → ((n : ℕ) → asks k n ≡ at_code k x y r n) → IsRebound s I k b d
        by _ _ NoCode has z w same = none_some b z
        by _ _ (Kept a) has z w same = subst₂ (IsRebound s I k) (some_one a b z) (some_one a d w) (still k a)
        by _ _ (Changed c m a a1 ci mi is code h) has z w same = subst₂ (IsRebound s I k) (some_one a b z) (some_one a1 d w) (rebound c m a a1 h k is (has ∙ ap Some (sym (some_one a b z))) same)

    none : (k : MethodKey) → bodies_of p k ≡ None → bodies_of q k ≡ None
    none k e = by (bodies_of p k) (bodies_of q k) (found k) e
      where
        by : (x y : Option NamedBody) → R k x y → x ≡ None → y ≡ None
        by _ _ NoCode z = refl
        by _ _ (Kept a) z = none_some a (sym z)
        by _ _ (Changed c m a d ci mi is code h) z = none_some a (sym z)

    some : (k : MethodKey) (b : NamedBody) → bodies_of p k ≡ Some b → (d : NamedBody) × (bodies_of q k ≡ Some d)
    some k b e = by (bodies_of p k) (bodies_of q k) (found k) e
      where
        by : (x y : Option NamedBody) → R k x y → x ≡ Some b → (d : NamedBody) × (y ≡ Some d)
        by _ _ NoCode z = none_some b z
        by _ _ (Kept a) z = (a, refl)
        by _ _ (Changed c m a d ci mi is code h) z = (d, refl)

    are_rebound : AreRebound s (bodies_of p) (bodies_of q) I
    are_rebound = record { none = none; some = some; bodies = body; keeps = λ x r. reached_on p o f a script x r }

  -- what the one shows the other shows
  pub reasons_shown : IsAcyclic p → (o : Outer) (numbers : Numbers) → (used → (f : Framework) (a : Floats) (script : List Move) → Fit p o f script → IsCoverable (value_analysis p numbers) p o f a t) → SameShown p q o
  reasons_shown acyclic o numbers base = rebound_shown p q o (Reached p o) (record {
    face = λ f. sym (others_face R p q others f);
    bodies = λ f a script fit. are_rebound acyclic o numbers base f a script fit;
    begins = λ f a script fit. (0, refl);
  })

  -- ---- typings

  retyped_code : (k : MethodKey) (x y : Option NamedBody) → R k x y → Retyped p k x y
  retyped_code k _ _ NoCode = retyping.NoCode
  retyped_code k _ _ (Kept b) = retyping.Kept b
  retyped_code k _ _ (Changed c m b d ci mi is code h) = retyping.Changed b d (λ c1 m1 i j is1 has. subst (λ z. IsRetyped p z m1 b d) (sym (same_class c1 c m1 m i ci (sym is1 ∙ is)))
      (subst (λ z. IsRetyped p c z b d) (sym (same_method c1 c m1 m i ci j mi (sym is1 ∙ is))) (record {
        table = h.table;
        typing = h.typing;
        changed = record {
          forms = λ n f e. let r = h.changed.forms n f e in (r.0, (r.1.0, to n f r.0 r.1.1));
          ends = h.changed.ends;
          regions = h.changed.regions;
          registers = h.changed.registers;
          ins = h.changed.ins;
        };
      })))
    where
      to : (n : ℕ) (f f' : Form) → (f' ≡ f) ⊎ Rebound used p t h.table (key_in c m) n f f' → (f' ≡ f) ⊎ ((a : Kinds) → state_at h.table n ≡ Some a → Retypes p a f f')
      to n f f' (inl e) = inl e
      to n f f' (inr r) = inr r.retypes

  -- the other program is typed
  pub reasons_typed : IsTyped q
  reasons_typed = retyped_program p q regular.typed (others_weaker R (Retyped p) retyped_code p q others)
