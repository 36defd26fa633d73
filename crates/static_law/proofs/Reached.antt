-- What the framework reaches on objects: no loose method, and every other one as before. Where an object stands under a class
-- that defines a virtual method, it finds no loose one of that name and signature, since loose methods have no rivals.
use Rattle.std.proofs.Common.{◌≡◌, Bool, true, false, refl, sym, ap, ◌∙◌, subst}
use Rattle.std.specs.Prelude.{◌&&◌, ◌||◌, not, find, Option, Some, None}
use Rattle.std.specs.List.{list_any}
use Rattle.std.specs.Option.{option_map}
use Rattle.lemmas.proofs.Bools.{untrue}
use Rattle.dalvik_defs.specs.Names.{Text, text_eq, is_common, proto_text, object_type}
use Rattle.dalvik_defs.specs.Flags.{is_virtual}
use Rattle.dalvik_defs.specs.Under.{class_named, defines, is_under, is_own_under, is_outward}
use Rattle.dalvik_defs.specs.Find.{Found, found_in as found_of, method_in, is_virtual_method, finds_at}
use Rattle.dalvik_defs.specs.Face.{face_of, declared_in, finds_virtually}
use Rattle.dalvik_defs.specs.Outer.{Outer}
use Rattle.dalvik_defs.specs.Legal.{is_found, is_found_virtual, keeper_above, answers_kept, calls_back, may_reach}
use Rattle.dalvik_defs.specs.Silence.{key_in}
use Rattle.dalvik_defs.specs.declared.names.Signature.{Signature}
use Rattle.dalvik_defs.specs.declared.names.MethodKey.{MethodKey}
use Rattle.dalvik_defs.specs.declared.program.NamedMethod.{NamedMethod}
use Rattle.dalvik_defs.specs.declared.program.NamedClass.{NamedClass}
use Rattle.dalvik_defs.specs.declared.program.NamedProgram.{NamedProgram}
use Rattle.dalvik_defs.specs.declared.tables.Framework.{Framework}
use Rattle.dalvik_defs.proofs.Calm.{text_sound}
use Rattle.pass_defs.specs.Loose.{staticised, classes_under, has_virtual, has_rival}
use Rattle.removal_law.specs.Left.{In, NamesNone}
use Rattle.removal_law.specs.Reach.{IsRegular, TellsApart, TellsProtos, AgreesInside}
use Rattle.removal_law.proofs.Lists.{clash, and_left, and_behind, any_same, found_in as found_passes}
use Rattle.removal_law.proofs.Declared.{found_it}
use Rattle.removal_law.proofs.Finds.{into_filter}
use Rattle.removal_law.proofs.Outward.{any_here, any_where}
use Rattle.removal_law.proofs.Trees.{class_name, class_in, defined}
use Rattle.static_law.specs.Static.{IsOld, key, IsSound, AreApart, made_static}
use Rattle.program_laws.proofs.Remade.{outward_same, framed_same}
use Rattle.static_law.proofs.Sites.{virtually_same}
use Rattle.static_law.proofs.Called.{at_called}
use Rattle.static_law.proofs.Declared.{itself, virtual_alike}
use Rattle.static_law.proofs.Known.{IsAt, is_at, is_apart, method_of, climbs, within, class_of, not_outward}

-- a virtual method that a class of a name declares, by its name and a text of its proto
record IsDeclared (p : NamedProgram) (t n x : Text) : Type 0 where
  class : NamedClass
  method : NamedMethod
  named : class_named p t ≡ Some class
  stands : In method class.methods
  name : method.name ≡ n
  proto : proto_text method.signature ≡ x
  virtual : is_virtual_method method ≡ true

abbrev is_declared : (p : NamedProgram) (t n x : Text) (c : NamedClass) (m : NamedMethod) → class_named p t ≡ Some c → find (λ m. text_eq m.name n && text_eq (proto_text m.signature) x) c.methods ≡ Some m → is_virtual_method m ≡ true → IsDeclared p t n x
is_declared p t n x c m e i v = let z = found_passes (λ m. text_eq m.name n && text_eq (proto_text m.signature) x) c.methods m i in record {
  class = c;
  method = m;
  named = e;
  stands = z.is_in;
  name = text_sound m.name n (and_left (text_eq m.name n) (text_eq (proto_text m.signature) x) z.passes);
  proto = text_sound (proto_text m.signature) x (and_behind (text_eq m.name n) (text_eq (proto_text m.signature) x) z.passes);
  virtual = v;
}

declares : (p : NamedProgram) (t n x : Text) → is_found_virtual (declared_in p t n x) ≡ true → IsDeclared p t n x
declares p t n x v = by (class_named p t) refl v
  where
    at : (c : NamedClass) → class_named p t ≡ Some c → (a : Option NamedMethod) → find (λ m. text_eq m.name n && text_eq (proto_text m.signature) x) c.methods ≡ a → is_found_virtual (option_map (found_of c) a) ≡ true → IsDeclared p t n x
    at c e None i d = clash false d refl
    at c e (Some m) i d = is_declared p t n x c m e i d

    by : (o : Option NamedClass) → class_named p t ≡ o
        → is_found_virtual (elim o as (λ o. Option Found) [ Some c ↦ option_map (found_of c) (find (λ m. text_eq m.name n && text_eq (proto_text m.signature) x) c.methods) | None ↦ None ]) ≡ true → IsDeclared p t n x
    by None e d = clash false d refl
    by (Some c) e d = at c e (find (λ m. text_eq m.name n && text_eq (proto_text m.signature) x) c.methods) refl d

module _ (p : NamedProgram) (loose : MethodKey → Bool) (f : Framework) (sound : IsSound p loose) (none : NamesNone p f) (regular : IsRegular p) (apart : AreApart p loose) (tells : TellsApart p) where
  abbrev q : NamedProgram
  q = staticised p loose

  -- ---- a method that isn't loose above an object that finds a loose one

  module _ (u : Text) (c : NamedClass) (m : NamedMethod) (stands : class_named p u ≡ Some c) (i : In m c.methods) (free : loose (key_in c m) ≡ false) (virtual : is_virtual_method m ≡ true) where
    pub no_rival : (t : Text) (h : Found) → loose h.key ≡ true → IsAt p loose f sound none regular apart t (key_in c m) h → ⊥
    no_rival t h l at = clash (has_rival p h.key) found (is_apart p loose f sound none regular apart t (key_in c m) h l at).unrivalled
      where
        called : (h.key.name ≡ m.name) × (h.key.signature ≡ m.signature)
        called = at_called p t (key_in c m) h at.finds

        t_class : (d : NamedClass) × ((class_named p t ≡ Some d) × (In d p.classes × (d.name ≡ t)))
        t_class = class_of p loose f sound none regular apart t at.is_class

        named : class_named p c.name ≡ Some c
        named = ap (class_named p) (class_name p u c stands) ∙ stands

        own : is_own_under p t c.name ≡ true
        own = by (text_eq c.name object_type) refl (within p loose f sound none regular apart t (key_in c m) h l at)
          where
            by : (b : Bool) → text_eq c.name object_type ≡ b → (b || is_own_under p t c.name) ≡ true → is_own_under p t c.name ≡ true
            by true j a = clash (defines p c.name) (defined p c.name c named) (subst (λ x. defines p x ≡ false) (sym (text_sound c.name object_type j)) none.object)
            by false j a = a

        differs : text_eq c.name h.key.class ≡ false
        differs = untrue (text_eq c.name h.key.class) (λ e. clash (loose h.key) l
            (ap loose (ap (λ x. record h.key { class = x }) (sym (text_sound c.name h.key.class e)) ∙ ap (λ x. record h.key { class = c.name; name = x }) called.0 ∙ ap (λ x. key c.name m.name x) called.1) ∙ free))

        same_method : method_in c h.key.name h.key.signature ≡ Some m
        same_method = ap (λ n. method_in c n h.key.signature) called.0 ∙ ap (method_in c m.name) called.1 ∙ itself p loose sound tells u c m stands i

        test : NamedClass → NamedClass → Bool
        test d u = not (text_eq u.name h.key.class) && is_own_under p d.name u.name && has_virtual h.key u

        found : has_rival p h.key ≡ true
        found = any_here (λ d. list_any (test d) p.classes) t_class.0 (classes_under p h.key.class)
            (into_filter (λ c. is_own_under p c.name h.key.class) t_class.0 p.classes t_class.1.1.0
            (subst (λ x. is_own_under p x h.key.class ≡ true) (sym t_class.1.1.1) (climbs p loose f sound none regular apart t (key_in c m) h l at)))
            (any_here (test t_class.0) c p.classes (class_in p u c stands)
            (ap (λ b. not b && is_own_under p t_class.0.name c.name && has_virtual h.key c) differs
            ∙ ap (λ b. b && has_virtual h.key c) (subst (λ x. is_own_under p x c.name ≡ true) (sym t_class.1.1.1) own)
            ∙ ap (λ o. elim o as (λ o. Bool) [ Some m ↦ is_virtual_method m | None ↦ false ]) same_method ∙ virtual))

  -- ---- methods that the framework keeps

  module _ (o : Outer) (inside : AgreesInside o) (protos : TellsProtos p) (free : (k : MethodKey) → loose k ≡ true → o.methods k ≡ false) where
    -- a kept virtual method of a name and signature that some method of the program has
    module _ (n : Text) (s : Signature) (e : NamedClass) (y : NamedMethod) (e_named : class_named p e.name ≡ Some e) (y_stands : In y e.methods) (has : y.signature ≡ s) (u : Text) (kept : In u (o.keepers n s)) where
      keeper_key : (d : IsDeclared p u n (proto_text s)) → key_in d.class d.method ≡ key u n s
      keeper_key d =
          ap (λ x. key x d.method.name d.method.signature) (class_name p u d.class d.named)
          ∙ ap (λ x. key u x d.method.signature) d.name
          ∙ ap (key u n) (protos u e.name d.class e d.method y d.named e_named d.stands y_stands (d.proto ∙ ap proto_text (sym has)) ∙ has)

      -- isn't loose
      keeper_stays : (d : IsDeclared p u n (proto_text s)) → loose (key_in d.class d.method) ≡ false
      keeper_stays d = untrue (loose (key_in d.class d.method)) (λ l.
          clash (o.methods (key_in d.class d.method)) (ap o.methods (keeper_key d) ∙ inside.keepers u n s kept) (free (key_in d.class d.method) l))

    -- ---- a loose method

    module _ (t : Text) (g : Found) (l : loose g.key ≡ true) where
      abbrev IsKept : Text → Bool
      IsKept u = is_under p f t u && is_found_virtual (declared_in p u g.key.name (proto_text g.key.signature))

      -- where the object finds it
      at_it : is_found g.key (finds_virtually p f t g.key) ≡ true → (h : Found) × ((h.key ≡ g.key) × IsAt p loose f sound none regular apart t g.key h)
      at_it e = let r = found_it g.key (finds_virtually p f t g.key) e in (r.0, (r.1.1, is_at p loose f sound none regular apart t g.key r.0 r.1.0))

      below_kept : (h : Found) → h.key ≡ g.key → IsAt p loose f sound none regular apart t g.key h → (u : Text) → In u (o.keepers g.key.name g.key.signature) → IsKept u ≡ true → ⊥
      below_kept h same at u kept e =
          let lh = ap loose same ∙ l in
          let m = method_of p loose f sound none regular apart t g.key h lh at in
          let has = ap (λ x. x.key.signature) m.is ∙ ap (λ k. k.signature) same in
          let d = declares p u g.key.name (proto_text g.key.signature) (and_behind (is_under p f t u) (is_found_virtual (declared_in p u g.key.name (proto_text g.key.signature))) e) in
          no_rival u d.class d.method d.named d.stands (keeper_stays g.key.name g.key.signature m.class m.method m.named m.stands has u kept d) d.virtual t h lh (record {
            is_class = at.is_class;
            under = subst (λ x. is_under p f t x ≡ true) (sym (class_name p u d.class d.named)) (and_left (is_under p f t u) (is_found_virtual (declared_in p u g.key.name (proto_text g.key.signature))) e);
            finds = ap (finds_at p t) (keeper_key g.key.name g.key.signature m.class m.method m.named m.stands has u kept d) ∙ at.finds;
          })

      unanswered : answers_kept (face_of p f) o t g ≡ false
      unanswered = untrue (answers_kept (face_of p f) o t g) (λ e.
          let found = is_virtual g.flags g.key.name && is_found g.key (finds_virtually p f t g.key) in
          let above = keeper_above (face_of p f) o t g.key.name g.key.signature in
          let at = at_it (and_behind (is_virtual g.flags g.key.name) (is_found g.key (finds_virtually p f t g.key)) (and_left found above e)) in
          let u = any_where IsKept (o.keepers g.key.name g.key.signature) (and_behind found above e) in
          below_kept at.0 at.1.0 at.1.1 u.0 u.1.0 u.1.1)

      uncalled : calls_back (face_of p f) o t g ≡ false
      uncalled = untrue (calls_back (face_of p f) o t g) (λ e.
          let unshut = is_virtual g.flags g.key.name && not (o.shut g.key) in
          let may = is_outward p t || is_common g.key.name g.key.signature in
          let at = at_it (and_behind unshut (is_found g.key (finds_virtually p f t g.key)) (and_left (unshut && is_found g.key (finds_virtually p f t g.key)) may e)) in
          let lh = ap loose at.1.0 ∙ l in
          clash may (and_behind (unshut && is_found g.key (finds_virtually p f t g.key)) may e)
          (ap (λ b. b || is_common g.key.name g.key.signature) (not_outward p loose f sound none regular apart t g.key at.0 lh at.1.1)
          ∙ ap (λ k. is_common k.name k.signature) (sym at.1.0) ∙ (is_apart p loose f sound none regular apart t g.key at.0 lh at.1.1).uncommon))

      pub unreached : may_reach (face_of p f) o t g ≡ false
      unreached = ap (λ b. b || answers_kept (face_of p f) o t g || calls_back (face_of p f) o t g) (free g.key l)
          ∙ ap (λ b. b || calls_back (face_of p f) o t g) unanswered ∙ uncalled

    -- ---- any other method

    module _ (tells' : TellsApart (staticised p loose)) (u : Text) (c : NamedClass) (m : NamedMethod) (stands : class_named p u ≡ Some c) (i : In m c.methods) (stays : loose (key_in c m) ≡ false) (virtual : is_virtual_method m ≡ true) (old : IsOld loose m.name m.signature) where
      abbrev k : MethodKey
      k = key_in c m

      c_named : class_named p c.name ≡ Some c
      c_named = ap (class_named p) (class_name p u c stands) ∙ stands

      -- an object finds it as before
      found_alike : (t : Text) → finds_virtually q f t k ≡ finds_virtually p f t k
      found_alike t = virtually_same p loose f sound t k old (λ g e. untrue (loose g.key) (λ l. no_rival u c m stands i stays virtual t g l (is_at p loose f sound none regular apart t k g e)))

      -- and stands under the same kept ones
      kept_alike : (t : Text) → keeper_above (face_of q f) o t m.name m.signature ≡ keeper_above (face_of p f) o t m.name m.signature
      kept_alike t = any_same (λ v. is_under q f t v && is_found_virtual (declared_in q v m.name (proto_text m.signature))) (λ v. is_under p f t v && is_found_virtual (declared_in p v m.name (proto_text m.signature)))
          (o.keepers m.name m.signature)
          (λ v j. ap (λ w. w t v && is_found_virtual (declared_in q v m.name (proto_text m.signature))) (framed_same (made_static p loose) p f)
          ∙ ap (λ b. is_under p f t v && b) (virtual_alike p loose sound tells tells' v m.name (proto_text m.signature)
          (λ d y e w v'. keeper_stays m.name m.signature c m c_named i refl v j (is_declared p v m.name (proto_text m.signature) d y e w v'))))

      pub reached_alike : (t : Text) → may_reach (face_of q f) o t (found_of c m) ≡ may_reach (face_of p f) o t (found_of c m)
      reached_alike t =
          ap (λ s. o.methods k || (is_virtual m.flags m.name && is_found k s && keeper_above (face_of q f) o t m.name m.signature) || (is_virtual m.flags m.name && not (o.shut k) && is_found k s && (is_outward q t || is_common m.name m.signature))) (found_alike t)
          ∙ ap (λ b. o.methods k || (is_virtual m.flags m.name && is_found k (finds_virtually p f t k) && b) || (is_virtual m.flags m.name && not (o.shut k) && is_found k (finds_virtually p f t k) && (is_outward q t || is_common m.name m.signature))) (kept_alike t)
          ∙ ap (λ w. o.methods k || (is_virtual m.flags m.name && is_found k (finds_virtually p f t k) && keeper_above (face_of p f) o t m.name m.signature) || (is_virtual m.flags m.name && not (o.shut k) && is_found k (finds_virtually p f t k) && (w t || is_common m.name m.signature))) (outward_same (made_static p loose) p)
