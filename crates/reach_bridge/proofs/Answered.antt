-- What made objects answer to: calls of marked code, and calls of the framework.
use Rattle.std.proofs.Common.{◌≡◌, ℕ, ◌<◌, inl, inr, Bool, true, false, nat_eq, List, [], ◌∷◌, length, Some, refl, sym, ap, ◌∙◌, subst, arith}
use Rattle.std.specs.Prelude.{◌||◌, not, cond, slice_get, slice_index_or}
use Rattle.std.specs.List.{list_any}
use Rattle.insn_set.specs.declared.form.Insn.{Insn}
use Rattle.insn_set.specs.declared.ops.InvokeKind.{InvokeKind}
use Rattle.insn_set.specs.declared.ops.InvokeKind.TheVariants as call
use Rattle.program_model.specs.declared.pools.MethodName.{MethodName}
use Rattle.program_model.specs.declared.program.Method.{Method}
use Rattle.program_model.specs.declared.program.Class.{Class}
use Rattle.program_model.specs.declared.program.Program.{Program}
use Rattle.program_model.specs.declared.pass.Outside.{Outside}
use Rattle.class_defs.proofs.Positions.{entry_at, number_of}
use Rattle.call_graph.specs.declared.facts.Fact.TheVariants as fact
use Rattle.call_graph.specs.declared.named.Named.TheVariants as item
use Rattle.call_graph.specs.declared.live_set.LiveSet.{LiveSet}
use Rattle.call_graph.specs.Follows as follow
use Rattle.call_graph.specs.Follows.{method_types, names_of_method, named_facts, all_named, method_facts, call_facts, found_facts}
use Rattle.call_graph.specs.Objects as object
use Rattle.call_graph.specs.Objects.{answers_by, answer_facts, open_of, open_facts, IsOver, MayCall}
use Rattle.call_graph.specs.Closed.{kept_facts, forced, IsCalled}
use Rattle.program_model.specs.MemberRules.{is_direct}
use Rattle.dalvik_defs.specs.Names as spelled
use Rattle.dalvik_defs.specs.Names.{Text, text_eq, method_eq, object_type}
use Rattle.dalvik_defs.specs.Naming.{text_at, type_at, signature_at, method_at, named_method, named_class, named}
use Rattle.dalvik_defs.specs.Under.{is_own_under, is_outward}
use Rattle.dalvik_defs.specs.Find.{Found, is_virtual_method}
use Rattle.dalvik_defs.specs.Outer.{methods_in, outer_of}
use Rattle.dalvik_defs.specs.Silence.{key_in}
use Rattle.dalvik_defs.specs.declared.names.Signature.{Signature}
use Rattle.dalvik_defs.specs.declared.names.MethodKey.{MethodKey}
use Rattle.dalvik_defs.specs.declared.program.NamedBody.{NamedBody}
use Rattle.dalvik_defs.specs.declared.program.NamedMethod.{NamedMethod}
use Rattle.dalvik_defs.specs.declared.program.NamedClass.{NamedClass}
use Rattle.dalvik_defs.proofs.Calm.{text_sound}
use Rattle.pass_defs.specs.Calls.{is_within}
use Rattle.pass_defs.specs.Live.{conditions_of, is_bound, answers_to, KeepsVirtual, KeepsEntered, KeepsCalledBack}
use Rattle.name_bridge.proofs.Tables.{method_is, method_class, method_name, method_proto}
use Rattle.name_bridge.proofs.Found.{looked_up, found_parts, virtual_test}
use Rattle.name_bridge.proofs.Candidates.{common_test}
use Rattle.removal_law.proofs.Lists.{In, here, clash, contained, in_back}
use Rattle.removal_law.proofs.Finds.{in_flat}
use Rattle.removal_law.proofs.Members.{key}
use Rattle.removal_law.proofs.Trees.{class_in}
use Rattle.removal_law.proofs.Virtuals.{answer}
use Rattle.removal_law.proofs.Outward.{any_here, any_where}
use Rattle.removal_law.proofs.Declared.{method_same}
use Rattle.removal_bridge.proofs.Formed.{method_of, key_of, entry_below}
use Rattle.reach_bridge.specs.Names.{family_of}
use Rattle.reach.specs.Marked.{IsMarked}
use Rattle.reach_bridge.proofs.Held.{stands, of_image, placed_at, made_number, method_met}
use Rattle.reach_bridge.proofs.Based.{S, regular}
use Rattle.reach_bridge.proofs.Mentioned.{place_held}
use Rattle.reach_bridge.proofs.Coded.{LiveCode, IsCall, live_code, call_from}
use Rattle.reach_bridge.proofs.Upward.{keeps_above}
use Rattle.reach_bridge.proofs.Answering.{answers_named}
use Rattle.reach_bridge.proofs.Calls.{short, names}
use Rattle.reach_bridge.proofs.Keeping.{Begins, kept_own}
use Rattle.reach_bridge.proofs.Climbing.{climbs, object_found, object_is, outward}

module _ (p : Program) (o : Outside) (s : LiveSet) (g : IsMarked p o s) where
  -- ---- what is called on objects

  module _ (number : ℕ) (below : number < length p.methods) (k : MethodKey) (is : method_at p number ≡ k) (called : IsCalled p o g.closed.tables s number) where
    over : (n : ℕ) (q : MethodName) → n < length p.types → slice_get p.methods number ≡ Some q → is_within (named p) (type_at p n) k.class ≡ true → IsOver p g.closed.tables.object n q.class
    over n q lt at e = by (text_eq k.class object_type) refl e
      where
        class_is : k.class ≡ type_at p q.class
        class_is = ap (λ z. z.class) (sym is ∙ method_is p (S p o s g) number q at)

        by : (b : Bool) → text_eq k.class object_type ≡ b → (b || is_own_under (named p) (type_at p n) k.class) ≡ true → IsOver p g.closed.tables.object n q.class
        by true h e = inr (sym (object_is p o s g ∙ object_found p o s g q.class (method_class p (S p o s g) number q at) (sym class_is ∙ text_sound k.class object_type h)))
        by false h e = inl (climbs p o s g (length (named p).classes) n q.class lt (method_class p (S p o s g) number q at) (subst (λ z. is_own_under (named p) (type_at p n) z ≡ true) class_is e))

    answered : (t : Text) → (family_of p s).made t ≡ true → is_within (named p) t k.class ≡ true → (f : Found) → In f (answers_to (named p) t k.name k.signature) → (family_of p s).methods f.key ≡ true
    answered t made within f j =
        let n = made_number p s t made in
        let q = entry_at p.methods number below in
        let key = sym is ∙ method_is p (S p o s g) number q.0 q.1 in
        let from : In f (answers_to (named p) (type_at p n.number) (text_at p q.0.name) (signature_at p q.0.proto)) =
        subst (λ z. In f (answers_to (named p) z (text_at p q.0.name) (signature_at p q.0.proto))) (sym n.is) (subst (λ z. In f (answers_to (named p) t z.name z.signature)) key j) in
        let w = answers_named p (S p o s g) g.once q.0.name q.0.proto (method_name p (S p o s g) number q.0 q.1) (method_proto p (S p o s g) number q.0 q.1) n.number n.short f from in
        place_held p o s g w.at f w.found (λ y i'. g.closed.answers number n.number w.class q.0 y called below q.1 (method_class p (S p o s g) number q.0 q.1) n.marked w.is_class
        (over n.number q.0 n.short q.1 (subst (λ z. is_within (named p) z k.class ≡ true) (sym n.is) within))
        (contained y (answer_facts p number w.class) (subst (In y) (sym (ap (answers_by p w.class) q.1)) (in_flat (λ a. found_facts p (Some a)) w.at y (object.answers_to p w.class q.0.name q.0.proto) w.answers i'))))

  -- ---- calls of marked code

  module _ (m : MethodKey) (b : NamedBody) (l : LiveCode p s m b) (i : Insn) (at : In i l.body.insns) (kind : InvokeKind) (k : MethodKey) (r : IsCall p i kind k) where
    abbrev bases : List ℕ
    bases = g.closed.tables.bases.items

    is_called : is_bound kind ≡ false → IsCalled p o g.closed.tables s r.number
    is_called e = inr (record {
      from = fact.Method l.number.number;
      live = l.number.marked;
      calls = contained (fact.Called r.number) (forced p g.closed.tables (fact.Method l.number.number))
          (in_back (fact.Called r.number) (method_types p bases l.number.number) (all_named p bases (names_of_method (follow.own_method p l.number.number)))
          (in_flat (named_facts p bases) (item.Call kind r.number) (fact.Called r.number) (names_of_method (follow.own_method p l.number.number)) (names p o s g m b l i at kind k r)
          (in_back (fact.Called r.number) (method_facts p bases r.number) (call_facts p kind r.number) (by kind e))));
    })
      where
        by : (z : InvokeKind) → is_bound z ≡ false → In (fact.Called r.number) (call_facts p z r.number)
        by call.Virtual e = here []
        by call.Interface e = here []
        by call.Static e = clash true refl e
        by call.Direct e = clash true refl e
        by call.Super e = clash true refl e

  pub keeps_virtual : KeepsVirtual (named p) (family_of p s)
  keeps_virtual m b kind k args h c bound t made within f i =
      let l = live_code p o s g m b h in
      let r = call_from p o s g m b l kind k args c in
      answered r.1.1.number (short p o s g m b l r.0 r.1.0 kind k r.1.1) k r.1.1.is (is_called m b l r.0 r.1.0 kind k r.1.1 bound) t made within f (stands (answers_to (named p) t k.name k.signature) f i)

  -- ---- kept virtual methods

  begun_call : (number : ℕ) → Begins p o s g (fact.Called number) → IsCalled p o g.closed.tables s number
  begun_call number (inl i) = inl (contained (fact.Called number) (kept_facts p o) i)
  begun_call number (inr b) = inr (record { from = b.0; live = b.1.0; calls = contained (fact.Called number) (forced p g.closed.tables b.0) b.1.1 })

  not_direct : (b : Bool) → not b ≡ true → b ≡ false
  not_direct true e = sym e
  not_direct false e = refl

  pub keeps_entered : KeepsEntered (named p) (outer_of p o) (conditions_of p o) (family_of p s)
  keeps_entered m x d virtual kept t made within f i =
      let w = kept_own p o s g m x d kept in
      let test : is_direct p w.own.method ≡ false = not_direct (is_direct p w.own.method) (sym (virtual_test p w.own.method) ∙ ap is_virtual_method w.own.is ∙ virtual) in
      let calls = w.entered (fact.Called w.kept.number) (subst (In (fact.Called w.kept.number)) (sym (ap (λ b. cond (not b) (fact.Called w.kept.number ∷ []) []) test)) (here [])) in
      answered w.kept.number w.kept.short m w.kept.is (begun_call w.kept.number calls) t made within f (stands (answers_to (named p) t m.name m.signature) f i)

  -- ---- calls of the framework

  -- the name and the proto of a method number
  record IsNumbered (n : Text) (q : Signature) : Type 0 where
    number : ℕ
    entry : MethodName
    is_entry : slice_get p.methods number ≡ Some entry
    name : text_at p entry.name ≡ n
    proto : signature_at p entry.proto ≡ q

  entry_numbered : (m : Method) (e : MethodName) (nm : NamedMethod) (c : NamedClass) (n : Text) (q : Signature) → slice_get p.methods m.name ≡ Some e → named_method p m ≡ nm → key_in c nm ≡ key c.name n q → IsNumbered n q
  entry_numbered m e nm c n q is same k = record {
    number = m.name;
    entry = e;
    is_entry = is;
    name = ap (λ z. z.name) (sym (method_is p (S p o s g) m.name e is)) ∙ ap (λ z. z.name) same ∙ ap (λ z. z.name) k;
    proto = ap (λ z. z.signature) (sym (method_is p (S p o s g) m.name e is)) ∙ ap (λ z. z.signature) same ∙ ap (λ z. z.signature) k;
  }

  class_numbered : (k : Class) (m : Method) (nm : NamedMethod) (c : NamedClass) (n : Text) (q : Signature) → In k p.classes → In m k.methods → named_method p m ≡ nm → key_in c nm ≡ key c.name n q → IsNumbered n q
  class_numbered k m nm c n q at own same h =
      let i = placed_at p.classes k at in
      let j = placed_at k.methods m own in
      let fit = method_of p g.formed k i.0 j.0 m i.1 j.1 in
      entry_numbered m fit.entry nm c n q fit.is same h

  numbered : (t n : Text) (q : Signature) (f : Found) → In f (answers_to (named p) t n q) → IsNumbered n q
  numbered t n q f i =
      let w = answer (named p) (family_of p s) (keeps_above p o s g) (regular p o s g) n q t f i in
      let c = of_image (named_class p) w.class p.classes (class_in (named p) w.class.name w.class w.named) in
      let m = of_image (named_method p) w.method c.0.methods (subst (λ z. In w.method z.methods) (sym c.1.1) w.stands) in
      class_numbered c.0 m.0 w.method w.class n q c.1.0 m.1.0 m.1.1 (ap (λ z. z.key) w.is ∙ w.key_is)

  -- a method that isn't shut by name isn't by number
  not_shut : (n : ℕ) → n < length p.methods → methods_in p o.shut (method_at p n) ≡ false → slice_index_or g.closed.tables.shut.items n false ≡ false
  not_shut n lt away = let long = g.closed.are.shut_long in g.closed.are.shut n (omega (arith, lt, long)) ∙ by (list_any (nat_eq n) o.shut) refl
    where
      by : (b : Bool) → list_any (nat_eq n) o.shut ≡ b → list_any (nat_eq n) o.shut ≡ false
      by false e = e
      by true e =
          let r = any_where (nat_eq n) o.shut e in
          let same : method_eq (method_at p r.0) (method_at p n) ≡ true = ap (λ z. method_eq (method_at p z) (method_at p n)) (sym (number_of n r.0 r.1.1)) ∙ method_same (method_at p n) in
          clash (methods_in p o.shut (method_at p n)) (any_here (λ z. method_eq (method_at p z) (method_at p n)) r.0 o.shut r.1.0 same) away

  may_call : (k : ℕ) (n : Text) (q : Signature) (w : IsNumbered n q) → k < length p.types → (is_outward (named p) (type_at p k) || spelled.is_common n q) ≡ true → MayCall p g.closed.tables.object k w.entry
  may_call k n q w lt e = by (is_outward (named p) (type_at p k)) refl e
    where
      by : (b : Bool) → is_outward (named p) (type_at p k) ≡ b → (b || spelled.is_common n q) ≡ true → MayCall p g.closed.tables.object k w.entry
      by true h e = inl (outward p o s g (length (named p).classes) k lt h)
      by false h e = inr (sym (common_test p w.entry.name w.entry.proto) ∙ ap (λ z. spelled.is_common z (signature_at p w.entry.proto)) w.name ∙ ap (spelled.is_common n) w.proto ∙ e)

  called_held : (t n : Text) (q : Signature) → (family_of p s).made t ≡ true → (is_outward (named p) t || spelled.is_common n q) ≡ true
      → (f : Found) → In f (answers_to (named p) t n q) → methods_in p o.shut f.key ≡ false → (family_of p s).methods f.key ≡ true
  called_held t n q made may f j away =
      let k = made_number p s t made in
      let w = numbered t n q f j in
      let from : In f (answers_to (named p) (type_at p k.number) (text_at p w.entry.name) (signature_at p w.entry.proto)) =
      subst (λ z. In f (answers_to (named p) z (text_at p w.entry.name) (signature_at p w.entry.proto))) (sym k.is)
      (subst (λ z. In f (answers_to (named p) t z (signature_at p w.entry.proto))) (sym w.name) (subst (λ z. In f (answers_to (named p) t n z)) (sym w.proto) j)) in
      let h = answers_named p (S p o s g) g.once w.entry.name w.entry.proto (method_name p (S p o s g) w.number w.entry w.is_entry) (method_proto p (S p o s g) w.number w.entry w.is_entry) k.number k.short f from in
      let parts = found_parts p h.at f h.found in
      let there = parts.there in
      let fit = method_of p g.formed there.class h.at.class h.at.place there.method there.is_class there.is_method in
      let key : method_at p there.method.name ≡ f.key = key_of p g.formed there.class h.at.class h.at.place there.method there.is_class there.is_method ∙ sym (ap (λ x. x.key) parts.found) in
      let short = entry_below p g.formed there.method.name fit.entry fit.is in
      let facts : open_facts p g.closed.tables.shut.items (Some h.at) ≡ fact.Method there.method.name ∷ [] =
      ap (open_of g.closed.tables.shut.items) (looked_up p h.at there) ∙ ap (λ b. cond b [] (fact.Method there.method.name ∷ [])) (not_shut there.method.name short (ap (methods_in p o.shut) key ∙ away)) in
      ap (family_of p s).methods (sym key) ∙ method_met p s g.sized there.method.name short (g.closed.entails (fact.Made k.number) (fact.Method there.method.name) k.marked (inr (record {
        number = w.number;
        name = w.entry;
        class = h.class;
        at = h.at;
        is_name = w.is_entry;
        is_class = h.is_class;
        may = may_call k.number n q w k.short (ap (λ z. is_outward (named p) z || spelled.is_common n q) k.is ∙ may);
        answers = contained h.at (object.answers_to p h.class w.entry.name w.entry.proto) h.answers;
        fact_is = contained (fact.Method there.method.name) (open_facts p g.closed.tables.shut.items (Some h.at)) (subst (In (fact.Method there.method.name)) (sym facts) (here []));
      })))

  pub keeps_called_back : KeepsCalledBack (named p) (outer_of p o) (family_of p s)
  keeps_called_back t n q made may f i away = called_held t n q made may f (stands (answers_to (named p) t n q) f i) away
