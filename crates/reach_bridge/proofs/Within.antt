-- The marks' family without the members of classes that the program doesn't define is closed, and leaves the same.
use Rattle.std.proofs.Common.{◌≡◌, ℕ, zero, suc, ◌⊎◌, inl, inr, Bool, true, false, List, [], ◌∷◌, ◌++◌, length, map, Option, Some, None, refl, sym, ap, ◌∙◌, subst}
use Rattle.std.specs.Prelude.{◌&&◌, filter, flat_map, is_some}
use Rattle.lemmas.proofs.Bools.{and_both}
use Rattle.lemmas.proofs.Options.{none_some, some_same}
use Rattle.insn_set.specs.declared.ops.InvokeKind.{InvokeKind}
use Rattle.insn_set.specs.declared.ops.InvokeKind.TheVariants as call
use Rattle.program_model.specs.declared.program.Program.{Program}
use Rattle.program_model.specs.declared.pass.Outside.{Outside}
use Rattle.call_graph.specs.declared.live_set.LiveSet.{LiveSet}
use Rattle.reach.specs.Kept.{kept_of}
use Rattle.dalvik_defs.specs.Names.{Text, text_eq, initialiser_name, void}
use Rattle.dalvik_defs.specs.Naming.{named}
use Rattle.dalvik_defs.specs.Outer.{outer_of}
use Rattle.dalvik_defs.specs.Shown.{SameShown}
use Rattle.dalvik_defs.specs.Flags.{is_interface}
use Rattle.dalvik_defs.specs.Under.{class_named, defines}
use Rattle.dalvik_defs.specs.Find as find
use Rattle.dalvik_defs.specs.Find.{Found, Search, first_method, chain_of, interfaces_from, finds_statically, finds_super, finds_field, resolves_method, defined_field, defined_method}
use Rattle.dalvik_defs.specs.Initialised.{is_initialiser, initialiser_of, initialiser_in, initialiser_key}
use Rattle.dalvik_defs.specs.Silence.{key_in}
use Rattle.dalvik_defs.specs.declared.names.Signature.{Signature}
use Rattle.dalvik_defs.specs.declared.names.MethodKey.{MethodKey}
use Rattle.dalvik_defs.specs.declared.names.FieldKey.{FieldKey}
use Rattle.dalvik_defs.specs.declared.program.NamedField.{NamedField}
use Rattle.dalvik_defs.specs.declared.program.NamedMethod.{NamedMethod}
use Rattle.dalvik_defs.specs.declared.program.NamedClass.{NamedClass}
use Rattle.dalvik_defs.specs.declared.program.NamedProgram.{NamedProgram}
use Rattle.pass_defs.specs.Calls.{found_by, super_candidates, may_find}
use Rattle.pass_defs.specs.Live.{Family, everything, conditions_of, is_bound, answers_to, HasMentions, KeepsAbove, IsClosedFamily}
use Rattle.pass_defs.specs.Mentions.{Mentions}
use Rattle.pass_defs.specs.Typed.{IsTyped}
use Rattle.removal_law.specs.Left.{field_key, left_in, left_of}
use Rattle.removal_law.specs.Reach.{IsRegular, ShutsHold}
use Rattle.removal_law.proofs.OuterTables.{tables_agree}
use Rattle.removal_law.proofs.Lists.{In, here, there, clash, and_left, and_behind, in_either}
use Rattle.removal_law.proofs.Walks.{text_same}
use Rattle.removal_law.proofs.Declared.{none_there}
use Rattle.removal_law.proofs.Finds.{filter_same, out_of_flat, first_where, where_key, in_unfiltered, among_in}
use Rattle.removal_law.proofs.Fields as member
use Rattle.removal_law.proofs.Virtuals.{candidate, answer}
use Rattle.removal_law.proofs.Trees.{class_name, defined, chain_named}
use Rattle.removal_bridge.proofs.Formed.{removed_program, shuts_program, typed_program}
use Rattle.reach_bridge.specs.Names.{family_of, within}
use Rattle.reach.specs.Marked.{IsMarked}
use Rattle.reach_bridge.proofs.Kept.{kept_named}
use Rattle.reach_bridge.proofs.Held.{stands}
use Rattle.reach_bridge.proofs.Based.{regular}
use Rattle.reach_bridge.proofs.Mentioned.{nothing_in, only}
use Rattle.reach_bridge.proofs.Coded.{keeps_types, keeps_resolved}
use Rattle.reach_bridge.proofs.Upward.{keeps_above}
use Rattle.reach_bridge.proofs.Calls.{keeps_bound}
use Rattle.reach_bridge.proofs.Answered.{keeps_virtual, keeps_entered, keeps_called_back}
use Rattle.reach_bridge.proofs.Keeping.{class_kept, field_kept, method_kept, constructed_live, keeps_owners}
use Rattle.reach_bridge.proofs.Making.{keeps_made}
use Rattle.reach_bridge.proofs.Annotated.{keeps_mentions}

all_above : (p : NamedProgram) → KeepsAbove p everything
all_above p = record { above = λ t c i l u j d. refl; initialisers = λ t k l e. refl; defaults = λ t c m v i l j e a b. refl }

-- ---- what is found is of a class of the program

module _ (p : NamedProgram) (regular : IsRegular p) where
  abbrev step : ℕ → Text → List NamedClass
  step n t = elim (class_named p t) as (λ x. List NamedClass) [ Some d ↦ d ∷ interfaces_from n p d.interfaces | None ↦ [] ]

  interfaces_named : (n : ℕ) (ts : List Text) (c : NamedClass) → In c (interfaces_from n p ts) → class_named p c.name ≡ Some c
  interfaces_named zero ts c i = elim i [ ]
  interfaces_named (suc n) ts c i = by (class_named p r.0) refl r.1.1 (λ us j. interfaces_named n us c j)
    where
      r : (t : Text) × (In t ts × In c (step n t))
      r = out_of_flat (step n) c ts i

      at : (d : NamedClass) → class_named p r.0 ≡ Some d → In c (d ∷ interfaces_from n p d.interfaces) → ((us : List Text) → In c (interfaces_from n p us) → class_named p c.name ≡ Some c) → class_named p c.name ≡ Some c
      at d e (here ds) ih = ap (class_named p) (class_name p r.0 d e) ∙ e
      at d e (there z ds j) ih = ih d.interfaces j

      by : (x : Option NamedClass) → class_named p r.0 ≡ x → In c (elim x as (λ x. List NamedClass) [ Some d ↦ d ∷ interfaces_from n p d.interfaces | None ↦ [] ])
          → ((us : List Text) → In c (interfaces_from n p us) → class_named p c.name ≡ Some c) → class_named p c.name ≡ Some c
      by None e j ih = elim j [ ]
      by (Some d) e j ih = at d e j ih

  chain_there : (t : Text) (c : NamedClass) → In c (chain_of p t) → class_named p c.name ≡ Some c
  chain_there t c i = chain_named p everything (all_above p) (length p.classes) t c i

  where_defined : (n : Text) (q : Signature) (cs : List NamedClass) (f : Found) → ((c : NamedClass) → In c cs → class_named p c.name ≡ Some c) → first_method (λ m. true) n q cs ≡ Some f → defines p f.key.class ≡ true
  where_defined n q cs f known e =
      let w = first_where (λ m. true) n q cs f e in
      ap (λ k. defines p k.class) (where_key everything (λ m. true) n q cs f w) ∙ defined p w.class.name w.class (known w.class w.stands)

  pub resolved_defined : (k : MethodKey) (f : Found) → resolves_method p k ≡ Some f → defines p f.key.class ≡ true
  resolved_defined k f e = where_defined k.name k.signature (chain_of p k.class ++ interfaces_from (length p.classes) p (flat_map (λ c. c.interfaces) (chain_of p k.class))) f named_there e
    where
      named_there : (c : NamedClass) → In c (chain_of p k.class ++ interfaces_from (length p.classes) p (flat_map (λ c. c.interfaces) (chain_of p k.class))) → class_named p c.name ≡ Some c
      named_there c i = either (in_either c (chain_of p k.class) (interfaces_from (length p.classes) p (flat_map (λ c. c.interfaces) (chain_of p k.class))) i)
        where
          either : In c (chain_of p k.class) ⊎ In c (interfaces_from (length p.classes) p (flat_map (λ c. c.interfaces) (chain_of p k.class))) → class_named p c.name ≡ Some c
          either (inl j) = chain_there k.class c j
          either (inr j) = interfaces_named (length p.classes) (flat_map (λ c. c.interfaces) (chain_of p k.class)) c j

  searched_defined : (t n : Text) (q : Signature) (f : Found) → In f (found_by (find.search_of (first_method (λ m. true) n q (chain_of p t)))) → defines p f.key.class ≡ true
  searched_defined t n q f i = by (first_method (λ m. true) n q (chain_of p t)) refl i
    where
      by : (x : Option Found) → first_method (λ m. true) n q (chain_of p t) ≡ x → In f (found_by (find.search_of x)) → defines p f.key.class ≡ true
      by None e j = nothing_in f j
      by (Some y) e j = where_defined n q (chain_of p t) f (λ c h. chain_there t c h) (e ∙ ap (λ z. Some z) (only f y j))

  pub answer_defined : (t n : Text) (q : Signature) (f : Found) → In f (answers_to p t n q) → defines p f.key.class ≡ true
  answer_defined t n q f i = let r = answer p everything (all_above p) regular n q t f i in ap (λ k. defines p k.class) r.key_is ∙ defined p r.class.name r.class r.named

  candidate_defined : (ts : List Text) (n : Text) (q : Signature) (f : Found) → In f (find.candidates p ts n q) → defines p f.key.class ≡ true
  candidate_defined ts n q f i = let r = candidate p everything (all_above p) regular n q ts f i in ap (λ k. defines p k.class) r.key_is ∙ defined p r.class.name r.class r.named

  among_defined : (ts : List Text) (n : Text) (q : Signature) (f : Found) → In f (found_by (find.finds_among p ts n q)) → defines p f.key.class ≡ true
  among_defined ts n q f i = by (find.finds_among p ts n q) refl i
    where
      by : (x : Search) → find.finds_among p ts n q ≡ x → In f (found_by x) → defines p f.key.class ≡ true
      by Search.Nothing e j = nothing_in f j
      by Search.Clash e j = nothing_in f j
      by (Search.Finds y) e j = candidate_defined ts n q f (subst (λ z. In z (find.candidates p ts n q)) (only f y j) (among_in p everything (all_above p) regular ts n q y e))

  -- what a super call finds, by its version and by the class that it names
  super_defined : (class : Text) (k : MethodKey) (f : Found) → In f (found_by (finds_super p class k)) → defines p f.key.class ≡ true
  super_defined class k f i = by (find.is_037 p.version) i
    where
      above : In f (found_by (find.finds_above p class k)) → defines p f.key.class ≡ true
      above j = searched_defined (find.superclass_of p class) k.name k.signature f j

      by_flag : (c : NamedClass) (b : Bool) → In f (found_by (elim b as (λ b. Search) [ true ↦ find.finds_among p (c.name ∷ []) k.name k.signature | false ↦ find.finds_above p class k ])) → defines p f.key.class ≡ true
      by_flag c true j = among_defined (c.name ∷ []) k.name k.signature f j
      by_flag c false j = above j

      by_lists : (b : Bool) → In f (found_by (elim b as (λ b. Search) [ true ↦ Search.Nothing | false ↦ find.finds_above p class k ])) → defines p f.key.class ≡ true
      by_lists true j = nothing_in f j
      by_lists false j = above j

      by_class : (x : Option NamedClass) → In f (found_by (find.finds_super_037 p class k x)) → defines p f.key.class ≡ true
      by_class None j = by_lists (find.lists_interface p class k.class) j
      by_class (Some c) j = by_flag c (is_interface c.flags) j

      by : (b : Bool) → In f (found_by (elim b as (λ b. Search) [ true ↦ find.finds_super_037 p class k (class_named p k.class) | false ↦ find.finds_above p class k ])) → defines p f.key.class ≡ true
      by true j = by_class (class_named p k.class) j
      by false j = above j

  named_defined : (k : MethodKey) (f : Found) → In f (super_candidates p k) → defines p f.key.class ≡ true
  named_defined k f i = by (find.is_037 p.version && is_some (find.interface_named p k.class)) i
    where
      by : (b : Bool) → In f (elim b as (λ b. List Found) [ true ↦ find.candidates p (k.class ∷ []) k.name k.signature | false ↦ [] ]) → defines p f.key.class ≡ true
      by true j = candidate_defined (k.class ∷ []) k.name k.signature f j
      by false j = nothing_in f j

  pub bound_defined : (class : Text) (kind : InvokeKind) (k : MethodKey) (f : Found) → is_bound kind ≡ true → In f (may_find p class kind k) → defines p f.key.class ≡ true
  bound_defined class call.Static k f bound i = searched_defined k.class k.name k.signature f i
  bound_defined class call.Direct k f bound i = searched_defined k.class k.name k.signature f i
  bound_defined class call.Super k f bound i = either (in_either f (found_by (finds_super p class k)) (super_candidates p k) i)
    where
      either : In f (found_by (finds_super p class k)) ⊎ In f (super_candidates p k) → defines p f.key.class ≡ true
      either (inl j) = super_defined class k f j
      either (inr j) = named_defined k f j
  bound_defined class call.Virtual k f bound i = clash false bound refl
  bound_defined class call.Interface k f bound i = clash false bound refl

-- ---- the family

module _ (p : Program) (o : Outside) (s : LiveSet) (g : IsMarked p o s) where
  abbrev F : Family
  F = family_of p s

  abbrev W : Family
  W = within (named p) (family_of p s)

  R : IsRegular (named p)
  R = regular p o s g

  method_in : (k : MethodKey) → F.methods k ≡ true → defines (named p) k.class ≡ true → W.methods k ≡ true
  method_in k e d = and_both (F.methods k) (defines (named p) k.class) e d

  field_in : (k : FieldKey) → F.fields k ≡ true → defines (named p) k.class ≡ true → W.fields k ≡ true
  field_in k e d = and_both (F.fields k) (defines (named p) k.class) e d

  method_out : (k : MethodKey) → W.methods k ≡ true → F.methods k ≡ true
  method_out k e = and_left (F.methods k) (defines (named p) k.class) e

  field_out : (k : FieldKey) → W.fields k ≡ true → F.fields k ≡ true
  field_out k e = and_left (F.fields k) (defines (named p) k.class) e

  field_defined : (f : FieldKey) → is_some (defined_field (named p) f) ≡ true → defines (named p) f.class ≡ true
  field_defined f e = by (class_named (named p) f.class) refl e
    where
      by : (x : Option NamedClass) → class_named (named p) f.class ≡ x → is_some (elim x as (λ x. Option NamedField) [ Some c ↦ find.field_in c f.name f.kind | None ↦ None ]) ≡ true → defines (named p) f.class ≡ true
      by None i h = clash false h refl
      by (Some c) i h = defined (named p) f.class c i

  method_defined : (f : MethodKey) → is_some (defined_method (named p) f) ≡ true → defines (named p) f.class ≡ true
  method_defined f e = by (class_named (named p) f.class) refl e
    where
      by : (x : Option NamedClass) → class_named (named p) f.class ≡ x → is_some (elim x as (λ x. Option NamedMethod) [ Some c ↦ find.method_in c f.name f.signature | None ↦ None ]) ≡ true → defines (named p) f.class ≡ true
      by None i h = clash false h refl
      by (Some c) i h = defined (named p) f.class c i

  initialiser_defined : (t : Text) (k : MethodKey) → initialiser_of (named p) t ≡ Some k → defines (named p) k.class ≡ true
  initialiser_defined t k e = by (class_named (named p) t) refl e
    where
      key_class : (c : NamedClass) → initialiser_in c ≡ Some k → k.class ≡ c.name
      key_class c h = by_method (find.method_in c initialiser_name void) h
        where
          by_test : (b : Bool) → elim b as (λ b. Option MethodKey) [ true ↦ Some (initialiser_key c.name) | false ↦ None ] ≡ Some k → k.class ≡ c.name
          by_test true h = ap (λ z. z.class) (sym (some_same (initialiser_key c.name) k h))
          by_test false h = none_some k h

          by_method : (x : Option NamedMethod) → elim x as (λ x. Option MethodKey) [ Some m ↦ elim (is_initialiser m) as (λ b. Option MethodKey) [ true ↦ Some (initialiser_key c.name) | false ↦ None ] | None ↦ None ] ≡ Some k → k.class ≡ c.name
          by_method None h = none_some k h
          by_method (Some m) h = by_test (is_initialiser m) h

      by : (x : Option NamedClass) → class_named (named p) t ≡ x → elim x as (λ x. Option MethodKey) [ Some c ↦ initialiser_in c | None ↦ None ] ≡ Some k → defines (named p) k.class ≡ true
      by None i h = none_some k h
      by (Some c) i h = ap (defines (named p)) (key_class c h ∙ class_name (named p) t c i) ∙ defined (named p) t c i

  mentions_in : (m : Mentions) → HasMentions (named p) F m → HasMentions (named p) W m
  mentions_in m h = record {
    types = h.types;
    fields = λ k f c e. field_in (record k { class = f.0 }) (h.fields k f c e) (member.found_defined (named p) everything (all_above (named p)) R k f e);
    methods = λ k f c e. method_in f.key (h.methods k f c e) (resolved_defined (named p) R k f e);
  }

  pub closed : IsClosedFamily (named p) (outer_of p o) (conditions_of p o) W
  closed = record {
    kept = record {
      classes = class_kept p o s g;
      fields = λ f d e. field_in f (field_kept p o s g f d e) (field_defined f d);
      methods = λ m d e. method_in m (method_kept p o s g m d e) (method_defined m d);
      constructors = constructed_live p o s g;
      field_classes = λ f e. (keeps_owners p o s g).fields f (field_out f e) (and_behind (F.fields f) (defines (named p) f.class) e);
      method_classes = λ m e. (keeps_owners p o s g).methods m (method_out m e) (and_behind (F.methods m) (defines (named p) m.class) e);
    };
    above = record {
      above = (keeps_above p o s g).above;
      initialisers = λ t k l e. method_in k ((keeps_above p o s g).initialisers t k l e) (initialiser_defined t k e);
      defaults = λ t c m new is live i e j h. method_in (key_in c m) ((keeps_above p o s g).defaults t c m new is live i e j h) (ap (defines (named p)) (class_name (named p) t c is) ∙ defined (named p) t c is);
    };
    types = record {
      fields = λ k e. (keeps_types p o s g).fields k (field_out k e);
      methods = λ k e. (keeps_types p o s g).methods k (method_out k e);
      bodies = λ k b h. (keeps_types p o s g).bodies k b (method_out k h.0, h.1);
    };
    mentions = record {
      classes = λ t c is live. mentions_in _ ((keeps_mentions p o s g).classes t c is live);
      fields = λ k f is live. mentions_in _ ((keeps_mentions p o s g).fields k f is (field_out k live));
      methods = λ k m is live. mentions_in _ ((keeps_mentions p o s g).methods k m is (method_out k live));
    };
    made = record {
      kept = (keeps_made p o s g).kept;
      constructed = (keeps_made p o s g).constructed;
      news = λ m b to t h c d. (keeps_made p o s g).news m b to t (method_out m h.0, h.1) c d;
    };
    resolved = record {
      fields = λ m b h k f c e. field_in (record k { class = f.0 }) ((keeps_resolved p o s g).fields m b (method_out m h.0, h.1) k f c e) (member.found_defined (named p) everything (all_above (named p)) R k f e);
      methods = λ m b kind k args h i k' f c e. method_in f.key ((keeps_resolved p o s g).methods m b kind k args (method_out m h.0, h.1) i k' f c e) (resolved_defined (named p) R k' f e);
    };
    bound = λ m b kind k args h i e f c. method_in f.key (keeps_bound p o s g m b kind k args (method_out m h.0, h.1) i e f c)
        (bound_defined (named p) R m.class kind k f e (stands (may_find (named p) m.class kind k) f c));
    virtual = λ m b kind k args h i e t made under f c. method_in f.key (keeps_virtual p o s g m b kind k args (method_out m h.0, h.1) i e t made under f c)
        (answer_defined (named p) R t k.name k.signature f (stands (answers_to (named p) t k.name k.signature) f c));
    entered = λ m x d v kept t made under f c. method_in f.key (keeps_entered p o s g m x d v kept t made under f c)
        (answer_defined (named p) R t m.name m.signature f (stands (answers_to (named p) t m.name m.signature) f c));
    called_back = λ t n q made may f c away. method_in f.key (keeps_called_back p o s g t n q made may f c away) (answer_defined (named p) R t n q f (stands (answers_to (named p) t n q) f c));
  }

  -- ---- it leaves the same

  and_true : (a b : Bool) → b ≡ true → (a && b) ≡ a
  and_true true b e = e
  and_true false b e = refl

  class_there : (c : NamedClass) → In c (named p).classes → defines (named p) c.name ≡ true
  class_there c i = by (class_named (named p) c.name) refl
    where
      by : (x : Option NamedClass) → class_named (named p) c.name ≡ x → defines (named p) c.name ≡ true
      by (Some d) e = defined (named p) c.name d e
      by None e = clash (text_eq c.name c.name) (text_same c.name) (none_there (λ d. text_eq d.name c.name) (named p).classes e c i)

  left_same_class : (c : NamedClass) → In c (named p).classes → left_in W c ≡ left_in F c
  left_same_class c i =
      ap (λ fs. record c { fields = fs; methods = filter (λ m. W.methods (key_in c m)) c.methods })
      (filter_same (λ f. W.fields (field_key c.name f)) (λ f. F.fields (field_key c.name f)) c.fields (λ f j. and_true (F.fields (field_key c.name f)) (defines (named p) c.name) (class_there c i)))
      ∙ ap (λ ms. record c { fields = filter (λ f. F.fields (field_key c.name f)) c.fields; methods = ms })
      (filter_same (λ m. W.methods (key_in c m)) (λ m. F.methods (key_in c m)) c.methods (λ m j. and_true (F.methods (key_in c m)) (defines (named p) c.name) (class_there c i)))

  map_same : (cs : List NamedClass) → ((c : NamedClass) → In c cs → left_in W c ≡ left_in F c) → map (left_in W) cs ≡ map (left_in F) cs
  map_same [] h = refl
  map_same (c ∷ cs) h = ap (λ x. x ∷ map (left_in W) cs) (h c (here cs)) ∙ ap (λ xs. left_in F c ∷ xs) (map_same cs (λ d i. h d (there c cs i)))

  pub left_same : left_of W (named p) ≡ left_of F (named p)
  left_same = ap (λ cs. record (named p) { classes = cs }) (map_same (filter (λ c. F.classes c.name) (named p).classes) (λ c i. left_same_class c (in_unfiltered (λ c. F.classes c.name) c (named p).classes i)))

  pub shows_the_same : IsTyped (named p) → ShutsHold (named p) (outer_of p o) → SameShown (named p) (named (kept_of s p)) (outer_of p o)
  shows_the_same typed shuts = subst (λ q. SameShown (named p) q (outer_of p o)) (left_same ∙ sym (kept_named p s g.formed))
      (removed_program p g.formed g.once g.grounded typed (outer_of p o) (conditions_of p o) W closed (record { inside = tables_agree p o; shuts = shuts }))

  -- the table of shut methods holds what it says of what is left
  pub keeps_shuts : ShutsHold (named p) (outer_of p o) → ShutsHold (named (kept_of s p)) (outer_of p o)
  keeps_shuts holds = subst (λ q. ShutsHold q (outer_of p o)) (left_same ∙ sym (kept_named p s g.formed))
      (shuts_program p g.formed g.once g.grounded (outer_of p o) (conditions_of p o) W closed (tables_agree p o) holds)

  -- what is left is typed
  pub keeps_typing : IsTyped (named p) → IsTyped (named (kept_of s p))
  keeps_typing typed = subst (λ q. IsTyped q) (left_same ∙ sym (kept_named p s g.formed)) (typed_program p typed g.formed g.once g.grounded (outer_of p o) (conditions_of p o) W closed)
