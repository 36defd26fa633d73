-- What facts say of fields: of what is read from them, and once they are written.
use Rattle.std.proofs.Common.{◌≡◌, ℕ, zero, suc, Bool, true, false, true≢false, List, [], ◌∷◌, ◌++◌, Option, Some, None, ◌⊎◌, inl, inr, refl, sym, ap, ◌∙◌, subst}
use Rattle.std.specs.Prelude.{◌&&◌, not, length, map, slice_get, slice_set, Contains}
use Rattle.std.specs.Option.{option_map, option_or}
use Rattle.insn_set.specs.declared.ops.Item.{Item}
use Rattle.insn_set.specs.declared.ops.Item.TheVariants as item
use Rattle.dalvik_defs.proofs.Calm.{text_sound}
use Rattle.dalvik_defs.specs.Names.{Text, text_eq, field_eq, is_wide}
use Rattle.dalvik_defs.specs.Flags.{is_static}
use Rattle.dalvik_defs.specs.Under.{class_named}
use Rattle.dalvik_defs.specs.Face.{place_of}
use Rattle.dalvik_defs.specs.Fields.{first_of, written_or, static_value, with_static}
use Rattle.dalvik_defs.specs.Find.{defined_field, finds_field, field_from, field_in, first_field}
use Rattle.dalvik_defs.specs.Outer.{Outer}
use Rattle.dalvik_defs.specs.State.{World, Thing, Instance, Items, kind_of, put_field, put_thing, thing_at, zero_of, word_of}
use Rattle.dalvik_defs.specs.declared.state.Value.{Value}
use Rattle.dalvik_defs.specs.declared.state.Value.TheVariants.{Low, Object}
use Rattle.dalvik_defs.specs.declared.names.FieldKey.{FieldKey}
use Rattle.dalvik_defs.specs.declared.program.NamedClass.{NamedClass}
use Rattle.dalvik_defs.specs.declared.program.NamedField.{NamedField}
use Rattle.dalvik_defs.specs.declared.program.NamedProgram.{NamedProgram}
use Rattle.dalvik_defs.specs.declared.tables.Floats.{Floats}
use Rattle.dalvik_defs.specs.declared.tables.Framework.{Framework}
use Rattle.pass_defs.specs.Analysis.{Analysis, read_item}
use Rattle.pass_defs.specs.Facts.{Facts, own_key, begun_with}
use Rattle.pass_defs.specs.Typed.{wrong_item}
use Rattle.run_laws.specs.Fine.{IsThere}
use Rattle.run_laws.specs.Invariant.{Grows}
use Rattle.run_laws.proofs.Growing.{grows_same, grows_put}
use Rattle.run_facts.specs.Covered.{Sees, CoversWorld}
use Rattle.run_laws.specs.TypedStates.{KindHolds, ValueOf}
use Rattle.run_laws.proofs.Settled.{IsSettled}
use Rattle.run_laws.proofs.Registers.{and_left, and_right}
use Rattle.run_laws.proofs.Climbs.{none_some, some_one, class_in}
use Rattle.run_laws.proofs.Forms.{wide_kind}
use Rattle.cover_law.proofs.Ready.{IsReady}
use Rattle.cover_law.proofs.Along.{sees_later}
use Rattle.cover_law.proofs.Worlds.{FieldsThere}

field_sound : (j k : FieldKey) → field_eq j k ≡ true → j ≡ k
field_sound j k e = ap (λ u. record j { class = u }) (text_sound j.class k.class (and_left (text_eq j.class k.class) (text_eq j.name k.name) first))
    ∙ (ap (λ u. record j { class = k.class; name = u }) (text_sound j.name k.name (and_right (text_eq j.class k.class) (text_eq j.name k.name) first))
    ∙ ap (λ u. record k { kind = u }) (text_sound j.kind k.kind (and_right (text_eq j.class k.class && text_eq j.name k.name) (text_eq j.kind k.kind) e)))
  where
    first : (text_eq j.class k.class && text_eq j.name k.name) ≡ true
    first = and_left (text_eq j.class k.class && text_eq j.name k.name) (text_eq j.kind k.kind) e

-- ---- a field that a name finds is one that its class defines

module _ (p : NamedProgram) (k : FieldKey) (y : Text × NamedField) (named : (c : NamedClass) → Contains p.classes c → class_named p c.name ≡ Some c) where
  abbrev Own : Type 0
  Own = defined_field p (own_key k y) ≡ Some y.1

  first_own : (look : Text → Option (Text × NamedField)) → ((t : Text) → look t ≡ Some y → Own) → (ts : List Text) → first_field (map look ts) ≡ Some y → Own
  first_own look more [] e = none_some y e
  first_own look more (t ∷ ts) e = by (look t) refl e (first_own look more ts)
    where
      by : (o : Option (Text × NamedField)) → look t ≡ o → option_or o (first_field (map look ts)) ≡ Some y → (first_field (map look ts) ≡ Some y → Own) → Own
      by (Some x) i j rest = more t (i ∙ j)
      by None i j rest = rest j

  from_own : (m : ℕ) (t : Text) → field_from m p k t ≡ Some y → Own
  from_own zero t e = none_some y e
  from_own (suc m) t e = by (class_named p t) refl e (from_own m)
    where
      own : (c : NamedClass) → Contains p.classes c → (o : Option NamedField) → field_in c k.name k.kind ≡ o → option_or (option_map (λ f. (c.name, f)) o) (first_field (map (field_from m p k) (c.interfaces ++ c.superclass ∷ []))) ≡ Some y
          → ((t : Text) → field_from m p k t ≡ Some y → Own) → Own
      own c inside None i j more = first_own (field_from m p k) more (c.interfaces ++ c.superclass ∷ []) j
      own c inside (Some x) i j more = subst (λ z. defined_field p (own_key k z) ≡ Some z.1) (some_one (c.name, x) y j)
          (ap (λ o. elim o as (λ o. Option NamedField) [ Some c ↦ field_in c k.name k.kind | None ↦ None ]) (named c inside) ∙ i)

      by : (o : Option NamedClass) → class_named p t ≡ o → (elim o as (λ o. Option (Text × NamedField)) [
        | Some c ↦ option_or (option_map (λ f. (c.name, f)) (field_in c k.name k.kind)) (first_field (map (field_from m p k) (c.interfaces ++ c.superclass ∷ [])))
        | None ↦ None
      ]) ≡ Some y → ((t : Text) → field_from m p k t ≡ Some y → Own) → Own
      by None i j more = none_some y j
      by (Some c) i j more = own c (class_in p t c i) (field_in c k.name k.kind) refl j more

  pub found_own : finds_field p k ≡ Some y → Own
  found_own e = from_own (length p.classes) k.class e

module _ {V : Type 0} (a : Analysis V) (p : NamedProgram) (o : Outer) (f : Framework) (floats : Floats) (facts : Facts V) (base : IsReady a p o f floats facts) (reg : IsSettled p) where
  abbrev S : V → World → Value → Type 0
  S = Sees a p o facts

  -- ---- reads

  -- a value of a type is what an item of it reads
  pub read_same : (w : World) (i : Item) (u : Text) (v : Value) → wrong_item i u ≡ false → ValueOf p f w u v → read_item a i v ≡ v
  read_same w item.Wide u v e h = by (subst (λ k. KindHolds p f [] w k v) (wide_kind p f reg u (untrue (is_wide u) e)) (h []))
    where
      untrue : (b : Bool) → not b ≡ false → b ≡ true
      untrue true i = refl
      untrue false i = absurd (true≢false i)

      by : (n : ℕ) × (v ≡ Low n) → Low (word_of v) ≡ v
      by (n, i) = ap (λ v. Low (word_of v)) i ∙ sym i
  read_same w item.Plain u v e h = refl
  read_same w item.Object u v e h = refl
  read_same w item.Boolean u v e h = refl
  read_same w item.Byte u v e h = refl
  read_same w item.Char u v e h = refl
  read_same w item.Short u v e h = refl

  began_seen : (w : World) (k : FieldKey) (d : NamedField) → defined_field p k ≡ Some d → S (facts.fields k) w (begun_with k d)
  began_seen w k d e = base.sound.grows (a.known (begun_with k d)) (facts.fields k) (kind_of w (begun_with k d)) (begun_with k d) (base.closed.fields.firsts k d e) (base.sound.knows (kind_of w (begun_with k d)) (begun_with k d))

  pub static_seen : (w : World) (k : FieldKey) (y : Text × NamedField) → CoversWorld a p o facts w → finds_field p k ≡ Some y → is_static y.1.flags ≡ true → S (facts.fields (own_key k y)) w (static_value w k (place_of y.0 y.1))
  static_seen w k y cw e st = by (w.statics (own_key k y)) refl
    where
      own : defined_field p (own_key k y) ≡ Some y.1
      own = found_own p k y reg.regular.named e

      by : (z : Option Value) → w.statics (own_key k y) ≡ z → S (facts.fields (own_key k y)) w (written_or z (first_of k (place_of y.0 y.1)))
      by (Some v) i = cw.statics (own_key k y) y.1 v own i
      by None i = subst (λ b. S (facts.fields (own_key k y)) w (elim b as (λ b. Value) [ true ↦ first_of (own_key k y) (place_of y.0 y.1) | false ↦ zero_of k.kind ])) st (began_seen w (own_key k y) y.1 own)

  pub instance_seen : (w : World) (k : FieldKey) (y : Text × NamedField) (n : ℕ) (c : Text) (fs : FieldKey → Option Value) → CoversWorld a p o facts w → finds_field p k ≡ Some y → is_static y.1.flags ≡ false → slice_get w.heap n ≡ Some (Instance c fs)
      → S (facts.fields (own_key k y)) w (written_or (fs (own_key k y)) (zero_of k.kind))
  instance_seen w k y n c fs cw e st at = by (fs (own_key k y)) refl
    where
      own : defined_field p (own_key k y) ≡ Some y.1
      own = found_own p k y reg.regular.named e

      by : (z : Option Value) → fs (own_key k y) ≡ z → S (facts.fields (own_key k y)) w (written_or z (zero_of k.kind))
      by (Some v) i = cw.instances (own_key k y) y.1 v n c fs own at i
      by None i = subst (λ b. S (facts.fields (own_key k y)) w (elim b as (λ b. Value) [ true ↦ first_of (own_key k y) (place_of y.0 y.1) | false ↦ zero_of k.kind ])) st (began_seen w (own_key k y) y.1 own)

  -- ---- writes

  put_seen : (w : World) (k j : FieldKey) (v u : Value) (fs : FieldKey → Option Value) → put_field k v fs j ≡ Some u → S (facts.fields k) w v → (fs j ≡ Some u → S (facts.fields j) w u) → S (facts.fields j) w u
  put_seen w k j v u fs e now old = by (field_eq j k) refl e
    where
      by : (b : Bool) → field_eq j k ≡ b → (elim b as (λ b. Option Value) [ true ↦ Some v | false ↦ fs j ]) ≡ Some u → S (facts.fields j) w u
      by true i e = subst (λ k. S (facts.fields k) w u) (sym (field_sound j k i)) (subst (S (facts.fields k) w) (some_one v u e) now)
      by false i e = old e

  pub covers_static : (w : World) (k : FieldKey) (v : Value) → FieldsThere w → CoversWorld a p o facts w → IsThere w v → S (facts.fields k) w v → CoversWorld a p o facts (with_static w k v)
  covers_static w k v ft cw there now = let w1 = with_static w k v in let gr = grows_same w w1 refl in record {
    statics = λ j d u e i. put_seen w1 k j v u w.statics i (sees_later a p facts w w1 (facts.fields k) v gr there now) (λ i. sees_later a p facts w w1 (facts.fields j) u gr (ft.statics j u i) (cw.statics j d u e i));
    instances = λ j d u n c fs e i l. sees_later a p facts w w1 (facts.fields j) u gr (ft.instances n c fs j u i l) (cw.instances j d u n c fs e i l);
  }

  set_at : (xs : List Thing) (m : ℕ) (t : Thing) (n : ℕ) (c : Text) (fs : FieldKey → Option Value) → slice_get (slice_set xs m t) n ≡ Some (Instance c fs) → (t ≡ Instance c fs) ⊎ (slice_get xs n ≡ Some (Instance c fs))
  set_at [] m t n c fs e = inr e
  set_at (x ∷ xs) zero t zero c fs e = inl (some_one t (Instance c fs) e)
  set_at (x ∷ xs) zero t (suc n) c fs e = inr e
  set_at (x ∷ xs) (suc m) t zero c fs e = inr e
  set_at (x ∷ xs) (suc m) t (suc n) c fs e = set_at xs m t n c fs e

  fields_of : (c d : Text) (fs gs : FieldKey → Option Value) → Instance c fs ≡ Instance d gs → (k : FieldKey) → fs k ≡ gs k
  fields_of c d fs gs e k = ap (λ t. elim t as (λ t. Option Value) [ Instance c fs ↦ fs k | Items z vs ↦ None ]) e

  pub covers_instance : (w : World) (k : FieldKey) (z v : Value) (c : Text) (fs : FieldKey → Option Value) → thing_at w z ≡ Some (Instance c fs) → FieldsThere w → CoversWorld a p o facts w → IsThere w v → S (facts.fields k) w v
      → CoversWorld a p o facts (put_thing w z (Instance c (put_field k v fs)))
  covers_instance w k (Object m) v c fs at ft cw there now = record {
    statics = λ j d u e i. sees_later a p facts w w2 (facts.fields j) u gr (ft.statics j u i) (cw.statics j d u e i);
    instances = λ j d u n c1 gs e i l. by j d u n c1 gs e l (set_at w.heap m new n c1 gs i);
  }
    where
      new : Thing
      new = Instance c (put_field k v fs)

      w2 : World
      w2 = put_thing w (Object m) new

      gr : Grows w w2
      gr = grows_put w (Object m) (Instance c fs) new at refl

      by : (j : FieldKey) (d : NamedField) (u : Value) (n : ℕ) (c1 : Text) (gs : FieldKey → Option Value) → defined_field p j ≡ Some d → gs j ≡ Some u → (new ≡ Instance c1 gs) ⊎ (slice_get w.heap n ≡ Some (Instance c1 gs)) → S (facts.fields j) w2 u
      by j d u n c1 gs e l (inr i) = sees_later a p facts w w2 (facts.fields j) u gr (ft.instances n c1 gs j u i l) (cw.instances j d u n c1 gs e i l)
      by j d u n c1 gs e l (inl i) = put_seen w2 k j v u fs (fields_of c c1 (put_field k v fs) gs i j ∙ l) (sees_later a p facts w w2 (facts.fields k) v gr there now)
          (λ q. sees_later a p facts w w2 (facts.fields j) u gr (ft.instances m c fs j u at q) (cw.instances j d u m c fs e at q))
  covers_instance w k z v c fs at ft cw there now = none_some (Instance c fs) at
