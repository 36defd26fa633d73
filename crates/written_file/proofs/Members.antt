-- The members of a class that is written are those of its plan, in the plan's order.
use Rattle.std.proofs.Common.{◌≡◌, ◌≤◌, ◌<◌, ◌+◌, inl, inr, ℕ, zero, suc, Bool, true, false, List, [], ◌∷◌, ◌++◌, length, map, take, drop, refl, sym, ap, subst, ◌∙◌, arith, Option, Some, None}
use Rattle.std.specs.Prelude.{nat_eq, nat_lt, slice_get, ◌&&◌}
use Rattle.std.specs.List.{AllByRecursion, flat_map, list_all}
use Rattle.std.proofs.lemmas.Bool.{and_parts}
use Rattle.std.proofs.lemmas.List.{take_at, drop_at}
use Rattle.std.proofs.lemmas.Option.{slice_get_within}
use Rattle.lemmas.proofs.Lists.{all_at, get_map}
use Rattle.lemmas.proofs.Options.{before_map}
use Rattle.lemmas.proofs.Bools.{clash}
use Rattle.dex_pools.specs.declared.interner.Interner.{Interner}
use Rattle.dex_pools.specs.declared.used.Named.{Named}
use Rattle.dex_pools.specs.declared.used.Named.TheVariants as named
use Rattle.dex_pools.specs.Interned.{IsInterned}
use Rattle.dex_pools.specs.Written.{renumbered}
use Rattle.dex_pools.specs.Used.{class_names, kind_names, source_names, marks_names, field_names, method_names}
use Rattle.dex_pools.specs.Numbering.{used_in, field_key, method_key}
use Rattle.program_model.specs.declared.pass.Renumber.{Renumber}
use Rattle.program_model.specs.declared.pools.FieldName.{FieldName}
use Rattle.program_model.specs.declared.pools.MethodName.{MethodName}
use Rattle.program_model.specs.declared.program.Field.{Field}
use Rattle.program_model.specs.declared.program.Method.{Method}
use Rattle.program_model.specs.declared.program.Class.{Class}
use Rattle.program_model.specs.declared.program.Program.{Program}
use Rattle.program_model.specs.Distinct.{own_field_key, own_method_key}
use Rattle.program_model.specs.ValueRules.{marks_fit}
use Rattle.program_model.specs.MemberRules.{is_static, is_direct, class_of_field, class_of_method, is_class_number, first_value_fits, field_fits, method_fits, code_fits}
use Rattle.dex_write.specs.declared.ordered.MethodPart.{MethodPart}
use Rattle.dex_write.specs.Plans.{Plan, Numbered, in_order, spot_of, fields_from, methods_from, ordered_fields, ordered_methods, spot_where, is_same, spot}
use Rattle.dex_write.specs.Codes.{IsPlan}
use Rattle.dex_defs.specs.Written.{new_field, new_method, written_field, written_method, field_below, method_below, written_class}
use Rattle.dex_defs.specs.Written as written
use Rattle.write_laws.specs.Used.{IsUsed, IsShort}
use Rattle.write_laws.proofs.NamesOrdering.{AsMany, used_marked}
use Rattle.write_laws.proofs.Ascending.{one_number}
use Rattle.written_file.proofs.Fit.{FitsClass}
use Rattle.written_file.proofs.In.{In, in_left, in_right, in_flat, in_got, place_in}
use Rattle.written_file.proofs.Sorting.{Differ, news_differ}
use Rattle.written_file.proofs.Grouped.{firsts, group_from, Spot, in_plan, plan_differs, plan_ordered, group_spots}
use Rattle.written_file.proofs.Plans.{class_used}
use Rattle.written_file.proofs.Pairs.{HasOwn}

-- ---- the plan's numbers are groups of the members

fields_grouped : (r : Renumber) (wanted : Bool) (place : ℕ) (fs : List Field) → fields_from r.fields.items wanted place fs ≡ group_from (λ f. f.name) (λ f. is_static f.flags) wanted place (map (written_field r) fs)
fields_grouped r wanted place [] = refl
fields_grouped r wanted place (f ∷ fs) = ap (λ (l : List Numbered). spot_where (is_same wanted (is_static f.flags)) (spot (renumbered r.fields.items f.name) place) ++ l) (fields_grouped r wanted (suc place) fs)

methods_grouped : (r : Renumber) (p : Program) (wanted : Bool) (place : ℕ) (ms : List Method) → methods_from r.methods.items p wanted place ms ≡ group_from (λ m. new_method r m.name) (λ m. is_direct p m) wanted place ms
methods_grouped r p wanted place [] = refl
methods_grouped r p wanted place (m ∷ ms) = ap (λ (l : List Numbered). spot_where (is_same wanted (is_direct p m)) (spot (renumbered r.methods.items m.name) place) ++ l) (methods_grouped r p wanted (suc place) ms)

-- ---- what stands at a place

abbrev blank_field : Field
blank_field = record { name = 0; flags = record { 0 = 0 }; first = None; marks = [] }

abbrev blank_method : Method
blank_method = record { name = 0; flags = record { 0 = 0 }; marks = []; parameter_marks = []; body = None; lines = [] }

abbrev pub field_or : Option Field → Field
field_or None = blank_field
field_or (Some f) = f

abbrev pub method_or : Option Method → Method
method_or None = blank_method
method_or (Some m) = m

abbrev pub field_at : Renumber → Class → ℕ → Field
field_at r c k = field_or (slice_get (map (written_field r) c.fields) k)

abbrev pub method_at : Class → ℕ → Method
method_at c k = method_or (slice_get c.methods k)

map_map : {X Y Z : Type 0} (f : Y → Z) (g : X → Y) (xs : List X) → map f (map g xs) ≡ map (λ x. f (g x)) xs
map_map f g [] = refl
map_map f g (x ∷ xs) = ap (λ l. f (g x) ∷ l) (map_map f g xs)

map_both : {X Y : Type 0} (f : X → Y) (xs ys : List X) → map f (xs ++ ys) ≡ map f xs ++ map f ys
map_both f [] ys = refl
map_both f (x ∷ xs) ys = ap (λ l. f x ∷ l) (map_both f xs ys)

-- ---- members are named

field_named : (c : Class) (f : Field) (n : Named) → In f c.fields → In n (field_names f) → In n (class_names c)
unfolding class_names
field_named c f n i j = inr (inr (in_right n (flat_map kind_names c.interfaces) _ (in_right n (source_names c.source) _ (in_right n (marks_names c.marks) _ (in_left n (flat_map field_names c.fields) (flat_map method_names c.methods) (in_flat field_names n f c.fields i j))))))

method_named : (c : Class) (m : Method) (n : Named) → In m c.methods → In n (method_names m) → In n (class_names c)
unfolding class_names
method_named c m n i j = inr (inr (in_right n (flat_map kind_names c.interfaces) _ (in_right n (source_names c.source) _ (in_right n (marks_names c.marks) _ (in_right n (flat_map field_names c.fields) (flat_map method_names c.methods) (in_flat method_names n m c.methods i j))))))

field_name_in : (f : Field) → In (named.Field f.name) (field_names f)
unfolding field_names
field_name_in f = inl refl

method_name_in : (m : Method) → In (named.Method m.name) (method_names m)
unfolding method_names
method_name_in m = inl refl

pub all_of_list : {X : Type 0} (f : X → Bool) (x : X) (xs : List X) → list_all f xs ≡ true → In x xs → f x ≡ true
all_of_list f x xs h i = let p = place_in x xs i in all_at f xs p.at x h p.is

pub field_short : (p : Program) (class : ℕ) (f : Field) → field_fits p class f ≡ true → f.name < length p.fields
unfolding field_fits
field_short p class f h = by_name (slice_get p.fields f.name) refl
  where
    own : is_class_number (class_of_field (slice_get p.fields f.name)) class ≡ true
    own = (and_parts (is_class_number (class_of_field (slice_get p.fields f.name)) class) (first_value_fits p f.flags f.name f.first && marks_fit p f.marks) h).0

    by_name : (o : Option FieldName) → slice_get p.fields f.name ≡ o → f.name < length p.fields
    by_name None e = clash (is_class_number (class_of_field (slice_get p.fields f.name)) class) own (ap (λ (o : Option FieldName). is_class_number (class_of_field o) class) e)
    by_name (Some x) e = slice_get_within p.fields f.name x e

pub method_short : (p : Program) (class : ℕ) (m : Method) → method_fits p class m ≡ true → m.name < length p.methods
unfolding method_fits
method_short p class m h = by_name (slice_get p.methods m.name) refl
  where
    own : is_class_number (class_of_method (slice_get p.methods m.name)) class ≡ true
    own = (and_parts (is_class_number (class_of_method (slice_get p.methods m.name)) class) (code_fits p m m.body) (and_parts (is_class_number (class_of_method (slice_get p.methods m.name)) class && code_fits p m m.body) (marks_fit p m.marks && list_all (marks_fit p) m.parameter_marks) h).0).0

    by_name : (o : Option MethodName) → slice_get p.methods m.name ≡ o → m.name < length p.methods
    by_name None e = clash (is_class_number (class_of_method (slice_get p.methods m.name)) class) own (ap (λ (o : Option MethodName). is_class_number (class_of_method o) class) e)
    by_name (Some x) e = slice_get_within p.methods m.name x e

pub field_used : (p : Program) (k : ℕ) (c : Class) (f : Field) → slice_get p.classes k ≡ Some c → In f c.fields → IsUsed (used_in p) (named.Field f.name)
field_used p k c f e a = class_used p k c e (named.Field f.name) (field_named c f (named.Field f.name) a (field_name_in f))

pub method_used : (p : Program) (k : ℕ) (c : Class) (m : Method) → slice_get p.classes k ≡ Some c → In m c.methods → IsUsed (used_in p) (named.Method m.name)
method_used p k c m e a = class_used p k c e (named.Method m.name) (method_named c m (named.Method m.name) a (method_name_in m))

module _ (p : Program) (i : Interner) (few : IsShort p) (h : IsInterned p i) (k : ℕ) (c : Class) (fit : FitsClass p c) (is_class : slice_get p.classes k ≡ Some c) where
  abbrev r : Renumber
  r = i.numbers

  many : AsMany p (used_in p)
  many = used_marked p

  one_field : (f g : Field) → In f c.fields → In g c.fields → new_field r f.name ≡ new_field r g.name → own_field_key f ≡ own_field_key g
  one_field f g a b e =
      ap (λ (n : ℕ). n ∷ []) (one_number (used_in p).fields (field_key r.strings.items r.types.items p.fields) (length p.fields) i.order.fields.items r.fields.items h.fields many.fields few.fields f.name g.name
      (field_short p c.name f (all_of_list (field_fits p c.name) f c.fields fit.fields a), class_used p k c is_class (named.Field f.name) (field_named c f (named.Field f.name) a (field_name_in f)))
      (field_short p c.name g (all_of_list (field_fits p c.name) g c.fields fit.fields b), class_used p k c is_class (named.Field g.name) (field_named c g (named.Field g.name) b (field_name_in g))) e)

  one_method : (f g : Method) → In f c.methods → In g c.methods → new_method r f.name ≡ new_method r g.name → own_method_key f ≡ own_method_key g
  one_method f g a b e =
      ap (λ (n : ℕ). n ∷ []) (one_number (used_in p).methods (method_key r.strings.items r.types.items r.protos.items p.methods) (length p.methods) i.order.methods.items r.methods.items h.methods many.methods few.methods f.name g.name
      (method_short p c.name f (all_of_list (method_fits p c.name) f c.methods fit.methods a), class_used p k c is_class (named.Method f.name) (method_named c f (named.Method f.name) a (method_name_in f)))
      (method_short p c.name g (all_of_list (method_fits p c.name) g c.methods fit.methods b), class_used p k c is_class (named.Method g.name) (method_named c g (named.Method g.name) b (method_name_in g))) e)

  fields_differ : Differ (map (λ f. f.name) (map (written_field r) c.fields))
  fields_differ = subst Differ (sym (map_map (λ (f : Field). f.name) (written_field r) c.fields)) (news_differ (λ f. new_field r f.name) own_field_key [] c.fields fit.fields_differ one_field)

  methods_differ : Differ (map (λ m. new_method r m.name) c.methods)
  methods_differ = news_differ (λ m. new_method r m.name) own_method_key [] c.methods fit.methods_differ one_method

  abbrev field_plan : List Numbered
  field_plan = in_order (group_from (λ f. f.name) (λ f. is_static f.flags) true 0 (map (written_field r) c.fields)) ++ in_order (group_from (λ f. f.name) (λ f. is_static f.flags) false 0 (map (written_field r) c.fields))

  abbrev method_plan : List Numbered
  method_plan = in_order (group_from (λ m. new_method r m.name) (λ m. is_direct p m) true 0 c.methods) ++ in_order (group_from (λ m. new_method r m.name) (λ m. is_direct p m) false 0 c.methods)

  group_is : (wanted : Bool) → ordered_fields r c wanted ≡ in_order (group_from (λ f. f.name) (λ f. is_static f.flags) wanted 0 (map (written_field r) c.fields))
  unfolding ordered_fields
  group_is wanted = ap in_order (fields_grouped r wanted 0 c.fields)

  method_group_is : (wanted : Bool) → ordered_methods r p c wanted ≡ in_order (group_from (λ m. new_method r m.name) (λ m. is_direct p m) wanted 0 c.methods)
  unfolding ordered_methods
  method_group_is wanted = ap in_order (methods_grouped r p wanted 0 c.methods)

  got_field : (j : ℕ) (f : Field) → slice_get (map (written_field r) c.fields) j ≡ Some f → field_at r c j ≡ f
  got_field j f e = ap field_or e

  got_method : (j : ℕ) (m : Method) → slice_get c.methods j ≡ Some m → method_at c j ≡ m
  got_method j m e = ap method_or e

  -- the members of the plan of the class
  pub record Planned (plan : Plan) : Type 0 where
    pub class : plan.class ≡ c
    pub own : HasOwn plan
    pub statics : take plan.statics plan.fields ≡ ordered_fields r c true
    pub instances : drop plan.statics plan.fields ≡ ordered_fields r c false
    pub directs : map spot_of (take plan.directs plan.methods) ≡ ordered_methods r p c true
    pub virtuals : map spot_of (drop plan.directs plan.methods) ≡ ordered_methods r p c false
    pub fields : (written_class r p c).fields ≡ map (λ x. field_at r c x.1) plan.fields
    pub methods : (written_class r p c).methods ≡ map (λ m. written_method r (method_at c m.place)) plan.methods
    pub static_spots : AllByRecursion (Spot (λ f. f.name) (λ f. is_static f.flags) (map (written_field r) c.fields) true) (take plan.statics plan.fields)
    pub instance_spots : AllByRecursion (Spot (λ f. f.name) (λ f. is_static f.flags) (map (written_field r) c.fields) false) (drop plan.statics plan.fields)
    pub direct_spots : AllByRecursion (λ m. Spot (λ x. new_method r x.name) (λ x. is_direct p x) c.methods true (spot_of m)) (take plan.directs plan.methods)
    pub virtual_spots : AllByRecursion (λ m. Spot (λ x. new_method r x.name) (λ x. is_direct p x) c.methods false (spot_of m)) (drop plan.directs plan.methods)

  map_take : {X Y : Type 0} (f : X → Y) (n : ℕ) (xs : List X) → map f (take n xs) ≡ take n (map f xs)
  map_take f zero xs = refl
  map_take f (suc n) [] = refl
  map_take f (suc n) (x ∷ xs) = ap (λ l. f x ∷ l) (map_take f n xs)

  map_drop : {X Y : Type 0} (f : X → Y) (n : ℕ) (xs : List X) → map f (drop n xs) ≡ drop n (map f xs)
  map_drop f zero xs = refl
  map_drop f (suc n) [] = refl
  map_drop f (suc n) (x ∷ xs) = map_drop f n xs

  all_mapped : (P : Numbered → Type 0) (ms : List MethodPart) → AllByRecursion P (map spot_of ms) → AllByRecursion (λ m. P (spot_of m)) ms
  all_mapped P [] a = tt
  all_mapped P (m ∷ ms) a = (a.0, all_mapped P ms a.1)

  pub planned : (plan : Plan) → IsPlan p r c plan → Planned plan
  planned plan is =
      let fs : plan.fields ≡ field_plan = is.fields ∙ (ap (λ (l : List Numbered). l ++ ordered_fields r c false) (group_is true) ∙ ap (λ (l : List Numbered). in_order (group_from (λ f. f.name) (λ f. is_static f.flags) true 0 (map (written_field r) c.fields)) ++ l) (group_is false)) in
      let ms : map spot_of plan.methods ≡ method_plan = is.methods ∙ (ap (λ (l : List Numbered). l ++ ordered_methods r p c false) (method_group_is true) ∙ ap (λ (l : List Numbered). in_order (group_from (λ m. new_method r m.name) (λ m. is_direct p m) true 0 c.methods) ++ l) (method_group_is false)) in
      let statics : take plan.statics plan.fields ≡ ordered_fields r c true = ap (λ (l : List Numbered). take plan.statics l) is.fields ∙ take_at (ordered_fields r c true) (ordered_fields r c false) plan.statics (sym is.statics) in
      let instances : drop plan.statics plan.fields ≡ ordered_fields r c false = ap (λ (l : List Numbered). drop plan.statics l) is.fields ∙ drop_at (ordered_fields r c true) (ordered_fields r c false) plan.statics (sym is.statics) in
      let directs : map spot_of (take plan.directs plan.methods) ≡ ordered_methods r p c true = map_take spot_of plan.directs plan.methods ∙ (ap (λ (l : List Numbered). take plan.directs l) is.methods ∙ take_at (ordered_methods r p c true) (ordered_methods r p c false) plan.directs (sym is.directs)) in
      let virtuals : map spot_of (drop plan.directs plan.methods) ≡ ordered_methods r p c false = map_drop spot_of plan.directs plan.methods ∙ (ap (λ (l : List Numbered). drop plan.directs l) is.methods ∙ drop_at (ordered_methods r p c true) (ordered_methods r p c false) plan.directs (sym is.directs)) in
      let numbers : map (λ m. m.number) plan.methods ≡ firsts method_plan = sym (map_map (λ (a : Numbered). a.0) spot_of plan.methods) ∙ ap firsts ms in
      let methods : written.in_order (method_below r p) c.methods ≡ map (λ m. method_at c m.place) plan.methods = sym (plan_ordered (λ m. new_method r m.name) (λ m. is_direct p m) c.methods (method_at c) got_method methods_differ) ∙ (ap (λ (l : List Numbered). map (λ a. method_at c a.1) l) (sym ms) ∙ map_map (λ (a : Numbered). method_at c a.1) spot_of plan.methods) in
      record {
        class = is.class;
        own = record {
          fields = subst (λ l. Differ (firsts l)) (sym fs) (plan_differs (λ f. f.name) (λ f. is_static f.flags) (map (written_field r) c.fields) (field_at r c) got_field fields_differ);
          methods = subst Differ (sym numbers) (plan_differs (λ m. new_method r m.name) (λ m. is_direct p m) c.methods (method_at c) got_method methods_differ);
        };
        statics = statics;
        instances = instances;
        directs = directs;
        virtuals = virtuals;
        fields = sym (plan_ordered (λ f. f.name) (λ f. is_static f.flags) (map (written_field r) c.fields) (field_at r c) got_field fields_differ) ∙ ap (λ (l : List Numbered). map (λ a. field_at r c a.1) l) (sym fs);
        methods = ap (λ (l : List Method). map (written_method r) l) methods ∙ map_map (written_method r) (λ (m : MethodPart). method_at c m.place) plan.methods;
        static_spots = subst (λ l. AllByRecursion (Spot (λ f. f.name) (λ f. is_static f.flags) (map (written_field r) c.fields) true) l) (sym (statics ∙ group_is true)) (group_spots (λ f. f.name) (λ f. is_static f.flags) (map (written_field r) c.fields) (field_at r c) got_field true);
        instance_spots = subst (λ l. AllByRecursion (Spot (λ f. f.name) (λ f. is_static f.flags) (map (written_field r) c.fields) false) l) (sym (instances ∙ group_is false)) (group_spots (λ f. f.name) (λ f. is_static f.flags) (map (written_field r) c.fields) (field_at r c) got_field false);
        direct_spots = all_mapped (Spot (λ x. new_method r x.name) (λ x. is_direct p x) c.methods true) (take plan.directs plan.methods) (subst (λ l. AllByRecursion (Spot (λ x. new_method r x.name) (λ x. is_direct p x) c.methods true) l) (sym (directs ∙ method_group_is true)) (group_spots (λ m. new_method r m.name) (λ m. is_direct p m) c.methods (method_at c) got_method true));
        virtual_spots = all_mapped (Spot (λ x. new_method r x.name) (λ x. is_direct p x) c.methods false) (drop plan.directs plan.methods) (subst (λ l. AllByRecursion (Spot (λ x. new_method r x.name) (λ x. is_direct p x) c.methods false) l) (sym (virtuals ∙ method_group_is false)) (group_spots (λ m. new_method r m.name) (λ m. is_direct p m) c.methods (method_at c) got_method false));
      }
