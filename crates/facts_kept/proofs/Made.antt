-- A class that every closed family of live sets has made is marked as made and can have objects: the names of the marked numbers
-- are such a family, and so they are where only classes that can have objects are made.
use Rattle.std.proofs.Common.{◌≡◌, ℕ, ◌<◌, Bool, true, false, true≢false, List, [], ◌∷◌, length, Option, Some, None, refl, sym, ap, ◌∙◌}
use Rattle.std.specs.Prelude.{◌&&◌, ◌||◌, not, slice_get}
use Rattle.std.specs.List.{list_any}
use Rattle.program_model.specs.Lookups.{class_place}
use Rattle.program_model.specs.declared.pass.Outside.{Outside}
use Rattle.program_model.specs.declared.program.Class.{Class}
use Rattle.program_model.specs.declared.program.Program.{Program}
use Rattle.class_defs.proofs.Positions.{both}
use Rattle.class_defs.proofs.WellFormed.{and_left, and_right}
use Rattle.call_graph.specs.declared.live_set.LiveSet.{LiveSet}
use Rattle.call_targets.specs.Targeted.{is_on}
use Rattle.dalvik_defs.specs.Flags.{is_abstract, is_interface}
use Rattle.dalvik_defs.specs.Names.{Text}
use Rattle.dalvik_defs.specs.Naming.{named, type_at}
use Rattle.dalvik_defs.specs.Outer.{Outer, outer_of}
use Rattle.dalvik_defs.specs.Under.{class_named}
use Rattle.dalvik_defs.specs.declared.names.FieldKey.{FieldKey}
use Rattle.dalvik_defs.specs.declared.names.MethodKey.{MethodKey}
use Rattle.dalvik_defs.specs.declared.program.NamedClass.{NamedClass}
use Rattle.dalvik_defs.specs.declared.program.NamedProgram.{NamedProgram}
use Rattle.pass_defs.specs.Live.{Conditions, Family, HasMentions, IsClosedFamily, IsMade, conditions_of, is_concrete, is_kept, is_kept_method, unconditional}
use Rattle.pass_defs.specs.Mentions.{Mentions}
use Rattle.reach.specs.Marked.{IsMarked}
use Rattle.reach_bridge.specs.Names.{family_of, within}
use Rattle.reach_bridge.proofs.Held as held
use Rattle.reach_bridge.proofs.Upward.{own_class}
use Rattle.reach_bridge.proofs.Within.{closed}

-- a class that can have objects is one of the program
pub concrete_class : (p : NamedProgram) (t : Text) → is_concrete p t ≡ true → (c : NamedClass) × (class_named p t ≡ Some c)
concrete_class p t e = by (class_named p t) refl e
  where
    by : (o : Option NamedClass) → class_named p t ≡ o → (elim o as (λ o. Bool) [ Some c ↦ not (is_interface c.flags) && not (is_abstract c.flags) | None ↦ false ]) ≡ true → (c : NamedClass) × (class_named p t ≡ Some c)
    by None i h = absurd (true≢false (sym h))
    by (Some c) i h = (c, i)

-- only classes that can have objects are made
abbrev concrete : NamedProgram → Family → Family
concrete p s = record s { made = λ t. s.made t && is_concrete p t }

module _ (p : NamedProgram) (o : Outer) (k : Conditions) (s : Family) where
  -- what is kept under no condition is kept

  never : (cs : List NamedClass) → list_any (λ c. false && s.classes c.name) cs ≡ false
  never [] = refl
  never (c ∷ cs) = never cs

  kept_more : (t : Text) → is_kept p o unconditional s t ≡ true → is_kept p o k s t ≡ true
  kept_more t e = by (o.classes t) e
    where
      by : (b : Bool) → (b || list_any (λ c. false && s.classes c.name) p.classes) ≡ true → (b || list_any (λ c. k.classes t c.name && s.classes c.name) p.classes) ≡ true
      by true h = refl
      by false h = absurd (true≢false (sym h ∙ never p.classes))

  method_more : (m : MethodKey) → is_kept_method o unconditional s m ≡ true → is_kept_method o k s m ≡ true
  method_more m e = by (o.methods m) e
    where
      by : (b : Bool) → (b || (false && s.classes m.class)) ≡ true → (b || (k.methods m && s.classes m.class)) ≡ true
      by true h = refl
      by false h = absurd (true≢false (sym h))

  field_more : (f : FieldKey) → (o.fields f || (false && s.classes f.class)) ≡ true → (o.fields f || (k.fields f && s.classes f.class)) ≡ true
  field_more f e = by (o.fields f) e
    where
      by : (b : Bool) → (b || (false && s.classes f.class)) ≡ true → (b || (k.fields f && s.classes f.class)) ≡ true
      by true h = refl
      by false h = absurd (true≢false (sym h))

  same_mentions : (m : Mentions) → HasMentions p s m → HasMentions p (concrete p s) m
  same_mentions m h = record { types = h.types; fields = h.fields; methods = h.methods }

  -- a family that is closed under conditions is closed without them, where only classes that can have objects are made
  pub loosened : IsClosedFamily p o k s → IsClosedFamily p o unconditional (concrete p s)
  loosened f = record {
    kept = record {
      classes = λ t d e. f.kept.classes t d (kept_more t e);
      fields = λ x d e. f.kept.fields x d (field_more x e);
      methods = λ m d e. f.kept.methods m d (method_more m e);
      constructors = λ m d c e. f.kept.constructors m d c (method_more m e);
      field_classes = f.kept.field_classes;
      method_classes = f.kept.method_classes;
    };
    above = record { above = f.above.above; initialisers = f.above.initialisers; defaults = f.above.defaults };
    types = record { fields = f.types.fields; methods = f.types.methods; bodies = f.types.bodies };
    mentions = record {
      classes = λ t c i l. same_mentions _ (f.mentions.classes t c i l);
      fields = λ x d i l. same_mentions _ (f.mentions.fields x d i l);
      methods = λ m d i l. same_mentions _ (f.mentions.methods m d i l);
    };
    made = record {
      kept = λ t d e. both (s.made t) (is_concrete p t) (f.made.kept t d (kept_more t e)) d;
      constructed = λ m d c e. both (s.made m.class) (is_concrete p m.class) (f.made.constructed m d c (method_more m e)) d;
      news = λ m b to t h c d. both (s.made t) (is_concrete p t) (f.made.news m b to t h c d) d;
    };
    resolved = record { fields = f.resolved.fields; methods = f.resolved.methods };
    bound = f.bound;
    virtual = λ m b kind x args h c e t made. f.virtual m b kind x args h c e t (and_left (s.made t) (is_concrete p t) made);
    entered = λ m x d v e t made. f.entered m x d v (method_more m e) t (and_left (s.made t) (is_concrete p t) made);
    called_back = λ t n g made. f.called_back t n g (and_left (s.made t) (is_concrete p t) made);
  }

-- the marked number of a made class, and the class
pub record MadeNumber (p : Program) (live : LiveSet) (t : Text) : Type 0 where
  pub number : ℕ
  pub short : number < length p.types
  pub marked : is_on live.made.items number ≡ true
  pub is : type_at p number ≡ t
  pub place : ℕ
  pub is_place : class_place p number ≡ Some place
  pub class : Class
  pub is_class : slice_get p.classes place ≡ Some class

pub made_number : (p : Program) (o : Outside) (live : LiveSet) → IsMarked p o live → (t : Text) → IsMade (named p) (outer_of p o) unconditional t → MadeNumber p live t
made_number p o live g t made =
    let family = within (named p) (family_of p live) in
    let it = made (concrete (named p) family) (loosened (named p) (outer_of p o) (conditions_of p o) family (closed p o live g)) in
    let n = held.made_number p live t (and_left (family.made t) (is_concrete (named p) t) it) in
    let c = concrete_class (named p) t (and_right (family.made t) (is_concrete (named p) t) it) in
    let own = own_class p o live g n.number n.short c.0 (ap (class_named (named p)) n.is ∙ c.1) in
    record {
      number = n.number;
      short = n.short;
      marked = n.marked;
      is = n.is;
      place = own.place;
      is_place = own.is_place;
      class = own.class;
      is_class = own.is_class;
    }
