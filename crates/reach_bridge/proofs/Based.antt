-- The program class that a type is or is an array of, by number and by name.
use Rattle.std.proofs.Common.{◌≡◌, ℕ, ◌<◌, ◌≤◌, ◌⊎◌, inl, inr, Bool, true, false, nat_eq, List, [], ◌∷◌, length, Option, Some, None, refl, sym, ap, ◌∙◌, subst, arith, leb-true}
use Rattle.std.specs.Prelude.{◌&&◌, ◌^◌, cond, slice_get, nat_lt, nat_le}
use Rattle.std.specs.Option.{option_map}
use Rattle.std.proofs.lemmas.Option.{slice_get-map}
use Rattle.program_model.specs.declared.program.Class.{Class}
use Rattle.program_model.specs.declared.program.Program.{Program}
use Rattle.program_model.specs.declared.pass.Outside.{Outside}
use Rattle.program_model.specs.Texts.{string_text, type_text}
use Rattle.program_model.specs.TableRules.{entries_fit, entries_differ, tables_are_short, texts_are_short, tables_fit}
use Rattle.program_model.specs.ProgramRules.{is_well_formed}
use Rattle.program_model.proofs.Formed.{formed}
use Rattle.class_defs.proofs.WellFormed.{and_left, and_right, Sound, sound, class_parts}
use Rattle.call_graph.specs.Bases.{same_text, without_brackets, last_named, or_none, base_of_text, bases_of}
use Rattle.call_graph.specs.declared.facts.Fact.{Fact}
use Rattle.call_graph.specs.declared.facts.Fact.TheVariants as fact
use Rattle.call_graph.specs.declared.live_set.LiveSet.{LiveSet}
use Rattle.call_graph.specs.Closed.{is_met}
use Rattle.call_graph.specs.Follows.{base_facts, kind_facts}
use Rattle.dalvik_defs.specs.Names.{Text, base_of}
use Rattle.dalvik_defs.specs.Naming.{text_at, type_at, named_class, named}
use Rattle.dalvik_defs.specs.Under.{defines}
use Rattle.dalvik_defs.proofs.Calm.{text_sound}
use Rattle.name_bridge.proofs.Found.{text_same, type_same}
use Rattle.removal_law.specs.Reach.{IsRegular}
use Rattle.removal_law.proofs.Lists.{In, here, there, clash}
use Rattle.removal_law.proofs.Walks as walk
use Rattle.removal_law.proofs.Trees.{class_name, class_in, defines_class}
use Rattle.removal_bridge.proofs.Formed.{regular_program}
use Rattle.reach_bridge.specs.Names.{family_of}
use Rattle.reach.specs.Marked.{IsMarked}
use Rattle.reach_bridge.proofs.Held.{of_image, placed_at, class_met}
use Rattle.reach_bridge.proofs.Kept.{other_number}

-- ---- few types

short_types : (p : Program) → tables_are_short p ≡ true → length p.types ≤ 65535
unfolding tables_are_short
short_types p h =
    let r = and_left (nat_le (length p.types) 65535 && nat_le (length p.protos) 65535) (nat_le (length p.fields) 65536 && nat_le (length p.methods) 65536)
    (and_right (nat_lt (length p.strings) (2 ^ 32) && nat_lt (length p.classes) (2 ^ 32)) ((nat_le (length p.types) 65535 && nat_le (length p.protos) 65535) && (nat_le (length p.fields) 65536 && nat_le (length p.methods) 65536)) h) in
    leb-true (length p.types) 65535 (and_left (nat_le (length p.types) 65535) (nat_le (length p.protos) 65535) r)

short_of : (p : Program) → is_well_formed p ≡ true → tables_are_short p ≡ true
unfolding tables_fit
short_of p h = and_left (tables_are_short p) (texts_are_short p) (and_left (tables_are_short p && texts_are_short p) (entries_fit p && entries_differ p) (formed p h).tables)

pub few_types : (p : Program) → is_well_formed p ≡ true → length p.types ≤ 65535
few_types p h = short_types p (short_of p h)

-- ---- texts without brackets

without_same : (us : List ℕ) → without_brackets us ≡ base_of us
without_same [] = refl
without_same (u ∷ us) = by (nat_eq u 91) (without_same us)
  where
    by : (b : Bool) → without_brackets us ≡ base_of us → cond b (without_brackets us) (u ∷ us) ≡ elim b as (λ b. Text) [ true ↦ base_of us | false ↦ u ∷ us ]
    by true e = e
    by false e = refl

-- ---- the last class of a text

record LastIn (p : Program) (t : List ℕ) (cs : List Class) (o : Option ℕ) : Type 0 where
  class : Class
  is_in : In class cs
  same : same_text (type_text p class.name) t ≡ true
  is : o ≡ Some class.name

later : (p : Program) (t : List ℕ) (d : Class) (cs : List Class) (o : Option ℕ) → LastIn p t cs o → LastIn p t (d ∷ cs) o
later p t d cs o r = record { class = r.class; is_in = there d cs r.is_in; same = r.same; is = r.is }

last_either : (p : Program) (t : List ℕ) (cs : List Class) (o : Option ℕ) → (last_named p t o cs ≡ o) ⊎ LastIn p t cs (last_named p t o cs)
last_either p t [] o = inl refl
last_either p t (d ∷ ds) o = by (same_text (type_text p d.name) t) refl (last_either p t ds (cond (same_text (type_text p d.name) t) (Some d.name) o))
  where
    next : Option ℕ
    next = cond (same_text (type_text p d.name) t) (Some d.name) o

    by : (b : Bool) → same_text (type_text p d.name) t ≡ b → (last_named p t next ds ≡ next) ⊎ LastIn p t ds (last_named p t next ds)
        → (last_named p t o (d ∷ ds) ≡ o) ⊎ LastIn p t (d ∷ ds) (last_named p t o (d ∷ ds))
    by b i (inr r) = inr (later p t d ds (last_named p t next ds) r)
    by true i (inl e) = inr (record { class = d; is_in = here ds; same = i; is = e ∙ ap (λ b. cond b (Some d.name) o) i })
    by false i (inl e) = inl (e ∙ ap (λ b. cond b (Some d.name) o) i)

last_found : (p : Program) (t : List ℕ) (cs : List Class) (o : Option ℕ) (c : Class) → In c cs → same_text (type_text p c.name) t ≡ true → LastIn p t cs (last_named p t o cs)
last_found p t [] o c i h = elim i [ ]
last_found p t (d ∷ ds) o c (here xs) h = by (last_either p t ds next)
  where
    next : Option ℕ
    next = cond (same_text (type_text p d.name) t) (Some d.name) o

    by : (last_named p t next ds ≡ next) ⊎ LastIn p t ds (last_named p t next ds) → LastIn p t (d ∷ ds) (last_named p t next ds)
    by (inl e) = record { class = d; is_in = here ds; same = h; is = e ∙ ap (λ b. cond b (Some d.name) o) h }
    by (inr r) = later p t d ds (last_named p t next ds) r
last_found p t (d ∷ ds) o c (there z xs i) h = later p t d ds (last_named p t o (d ∷ ds)) (last_found p t ds (cond (same_text (type_text p d.name) t) (Some d.name) o) c i h)

-- ---- what is held

-- the facts of a list are marked, or past their tables
abbrev pub Met : LiveSet → List Fact → Type 0
Met s ys = (y : Fact) → In y ys → is_met s y ≡ true

-- the class of a type, itself or as base of an array, is live where the program defines it
abbrev pub Held : Program → LiveSet → Text → Type 0
Held p s t = defines (named p) (base_of t) ≡ true → (family_of p s).classes (base_of t) ≡ true

module _ (p : Program) (o : Outside) (s : LiveSet) (g : IsMarked p o s) where
  abbrev pub S : Sound p
  S = sound p g.formed

  pub regular : IsRegular (named p)
  regular = regular_program p g.formed g.once g.grounded

  pub empty_undefined : {A : Type 0} → defines (named p) [] ≡ true → A
  empty_undefined d = clash false (regular.names [] d) refl

  pub empty_held : Held p s []
  empty_held d = empty_undefined d

  -- a class of the named program is one of a number
  record Numbered (t : Text) : Type 0 where
    class : Class
    is_in : In class p.classes
    is : type_at p class.name ≡ t

  numbered : (t : Text) → defines (named p) t ≡ true → Numbered t
  numbered t d =
      let c = defines_class (named p) t d in
      let r = of_image (named_class p) c.0 p.classes (class_in (named p) t c.0 c.1) in
      record { class = r.0; is_in = r.1.0; is = ap (λ x. x.name) r.1.1 ∙ class_name (named p) t c.0 c.1 }

  pub class_short : (c : Class) → In c p.classes → c.name < length p.types
  class_short c i = let r = placed_at p.classes c i in (class_parts p S r.0 c r.1).name

  based : (k n : ℕ) → slice_get p.types k ≡ Some n → type_at p k ≡ text_at p n → Met s (kind_facts (bases_of p) k) → Held p s (type_at p k)
  based k n e is met d =
      let c = numbered (base_of (type_at p k)) d in
      let text : without_brackets (string_text p n) ≡ base_of (type_at p k) = ap without_brackets (sym (text_same p n) ∙ sym is) ∙ without_same (type_at p k) in
      let same : type_text p c.class.name ≡ without_brackets (string_text p n) = sym (type_same p c.class.name) ∙ c.is ∙ sym text in
      let l = last_found p (without_brackets (string_text p n)) p.classes None c.class c.is_in (ap (same_text (type_text p c.class.name)) (sym same) ∙ walk.text_same (type_text p c.class.name)) in
      let short = class_short l.class l.is_in in
      let row : slice_get (bases_of p) k ≡ Some l.class.name = slice_get-map (λ z. base_of_text p (string_text p z)) p.types k ∙ ap (option_map (λ z. base_of_text p (string_text p z))) e ∙ ap (λ z. Some (or_none z)) l.is in
      let few = few_types p g.formed in
      let facts : kind_facts (bases_of p) k ≡ fact.Class l.class.name ∷ [] = ap base_facts row ∙ ap (λ b. cond b [] (fact.Class l.class.name ∷ [])) (other_number l.class.name 4294967295 (omega (arith, short, few))) in
      let name : type_at p l.class.name ≡ base_of (type_at p k) = type_same p l.class.name ∙ text_sound (type_text p l.class.name) (without_brackets (string_text p n)) l.same ∙ text in
      ap (family_of p s).classes (sym name) ∙ class_met p s g.sized l.class.name short (met (fact.Class l.class.name) (subst (In (fact.Class l.class.name)) (sym facts) (here [])))

  -- the base of a type is live where its facts are
  pub kind_held : (k : ℕ) → Met s (kind_facts (bases_of p) k) → Held p s (type_at p k)
  kind_held k met = by (slice_get p.types k) refl
    where
      by : (x : Option ℕ) → slice_get p.types k ≡ x → Held p s (type_at p k)
      by (Some n) e = based k n e (ap (λ x. elim x as (λ x. Text) [ Some t ↦ text_at p t | None ↦ [] ]) e) met
      by None e = subst (Held p s) (sym (ap (λ x. elim x as (λ x. Text) [ Some t ↦ text_at p t | None ↦ [] ]) e)) empty_held
