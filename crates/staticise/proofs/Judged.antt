-- All loose methods, one after another.
use Rattle.std.proofs.Common.{◌≡◌, ℕ, zero, suc, ◌+◌, ◌<◌, Bool, true, false, List, [], ◌∷◌, length, replicate, Option, Some, None, refl, sym, ap, ◌∙◌, subst, arith}
use Rattle.std.specs.Prelude.{◌&&◌, cond, is_some, slice_get, slice_set, count_by, if◌then◌else◌}
use Rattle.std.proofs.lemmas.List.Sums.{sum_by-cons}
use Rattle.lemmas.proofs.Lists.{got_short}
use Rattle.lemmas.proofs.Options.{some_same}
use Rattle.program_model.specs.declared.pass.Outside.{Outside}
use Rattle.program_model.specs.declared.pools.MethodName.{MethodName}
use Rattle.program_model.specs.declared.pools.Proto.{Proto}
use Rattle.program_model.specs.declared.program.Class.{Class}
use Rattle.program_model.specs.declared.program.Method.{Method}
use Rattle.program_model.specs.declared.program.Program.{Program}
use Rattle.facts.specs.declared.facts.Facts.{Facts}
use Rattle.static_protos.specs.Tables.{Tables, tables_of, wanted, has_room, with_new}
use Rattle.loose_methods.specs.Candidates.{may_be_static}
use Rattle.staticise.specs.Judging.{is_loose, is_loose_by, is_loose_named, is_loose_at, behind_proto, behind_entry, behind_method, behind_methods, behind_classes, judged}
use Rattle.static_protos.specs.Growing.{room_by, room_entry, grown_method, grown_methods, grown_classes}
use Rattle.staticise.specs.Left.{NoneLeft}
use Rattle.staticise.specs.Loosened.{count_given}
use Rattle.loose_methods.specs.Marking.{is_on}
use Rattle.loose_methods.specs.Sieved.{IsSieved}

module _ (p : Program) (facts : Facts) (o : Outside) (admitted : List Bool) where
  -- ---- by marks

  room_is : (s : Bool) (t : Tables) (k : Class) (m : Method) (place : ℕ) (q : MethodName) (e : Option Proto) → s ≡ may_be_static p facts o admitted place k q m
      → cond s (room_by p t k m q e) t ≡ behind_proto p facts o admitted t place k m q e
  room_is true t k m place q None h = refl
  room_is false t k m place q None h = refl
  room_is true t k m place q (Some proto) h = ap (λ b. cond (b && has_room p t (wanted p k m q proto)) (with_new t (wanted p k m q proto)) t) h
  room_is false t k m place q (Some proto) h = ap (λ b. cond (b && has_room p t (wanted p k m q proto)) (with_new t (wanted p k m q proto)) t) h

  same_cond : {A : Type 0} (b : Bool) (x : A) → cond b x x ≡ x
  same_cond true x = refl
  same_cond false x = refl

  pub method_is : (marks : List Bool) (t : Tables) (place : ℕ) (k : Class) (m : Method) → ((q : MethodName) → slice_get p.methods m.name ≡ Some q → is_on marks m.name ≡ may_be_static p facts o admitted place k q m)
      → grown_method p marks t k m ≡ behind_method p facts o admitted t place k m
  method_is marks t place k m h = by (slice_get p.methods m.name) refl
    where
      by : (e : Option MethodName) → slice_get p.methods m.name ≡ e → cond (is_on marks m.name) (room_entry p t k m e) t ≡ behind_entry p facts o admitted t place k m e
      by None f = same_cond (is_on marks m.name) t
      by (Some q) f = room_is (is_on marks m.name) t k m place q (slice_get p.protos q.proto) (h q f)

  pub methods_are : (marks : List Bool) (t : Tables) (place : ℕ) (k : Class) (ms : List Method)
      → ((i : ℕ) (m : Method) (q : MethodName) → slice_get ms i ≡ Some m → slice_get p.methods m.name ≡ Some q → is_on marks m.name ≡ may_be_static p facts o admitted place k q m)
      → grown_methods p marks t k ms ≡ behind_methods p facts o admitted t place k ms
  methods_are marks t place k [] h = refl
  methods_are marks t place k (m ∷ ms) h =
      ap (λ u. grown_methods p marks u k ms) (method_is marks t place k m (λ q e. h 0 m q refl e)) ∙ methods_are marks (behind_method p facts o admitted t place k m) place k ms (λ i x q e f. h (suc i) x q e f)

  pub classes_are : (marks : List Bool) (t : Tables) (place : ℕ) (ks : List Class)
      → ((c i : ℕ) (k : Class) (m : Method) (q : MethodName) → slice_get ks c ≡ Some k → slice_get k.methods i ≡ Some m → slice_get p.methods m.name ≡ Some q → is_on marks m.name ≡ may_be_static p facts o admitted (c + place) k q m)
      → grown_classes p marks t ks ≡ behind_classes p facts o admitted t place ks
  classes_are marks t place [] h = refl
  classes_are marks t place (k ∷ ks) h =
      ap (λ u. grown_classes p marks u ks) (methods_are marks t place k k.methods (λ i m q e f. h 0 i k m q refl e f ∙ ap (λ n. may_be_static p facts o admitted n k q m) (let z : 0 + place ≡ place = omega arith in z)))
      ∙ classes_are marks (behind_methods p facts o admitted t place k k.methods) (suc place) ks
      (λ c i x m q e f g. h (suc c) i x m q e f g ∙ ap (λ n. may_be_static p facts o admitted n x q m) (let z : suc c + place ≡ c + suc place = omega arith in z))

  pub sieved_is : (marks : List Bool) → IsSieved p facts o admitted marks → o.optimise ≡ true → grown_classes p marks (tables_of p) p.classes ≡ judged p facts o admitted
  sieved_is marks s e = classes_are marks (tables_of p) 0 p.classes (λ c i k m q f g h. s.are c i k m q f g h ∙ ap (λ n. may_be_static p facts o admitted n k q m) (let z : c ≡ c + 0 = omega arith in z))
      ∙ sym (ap (λ b. if b then behind_classes p facts o admitted (tables_of p) 0 p.classes else tables_of p) e)

  -- ---- how many are given

  abbrev pub IsSized : Tables → Type 0
  IsSized t = length t.given ≡ length p.methods

  set_long : (xs : List (Option ℕ)) (n : ℕ) (x : Option ℕ) → length (slice_set xs n x) ≡ length xs
  set_long [] n x = refl
  set_long (y ∷ xs) zero x = refl
  set_long (y ∷ xs) (suc n) x = ap suc (set_long xs n x)

  set_some : (xs : List (Option ℕ)) (n v : ℕ) → n < length xs → 0 < count_by is_some (slice_set xs n (Some v))
  set_some [] n v lt = absurd (omega (arith, lt))
  set_some (y ∷ xs) zero v lt = let s = sum_by-cons (λ o. cond (is_some o) 1 0) (Some v) xs in omega (arith, s)
  set_some (None ∷ xs) (suc n) v lt = set_some xs n v (omega (arith, lt))
  set_some (Some y ∷ xs) (suc n) v lt = let s = sum_by-cons (λ o. cond (is_some o) 1 0) (Some y) (slice_set xs n (Some v)) in omega (arith, s)

  with_sized : (t : Tables) (k : Class) (m : Method) (q : MethodName) (proto : Proto) → IsSized t → IsSized (with_new t (wanted p k m q proto))
  with_sized t k m q proto s = set_long t.given m.name _ ∙ s

  with_some : (t : Tables) (k : Class) (m : Method) (q : MethodName) (proto : Proto) → IsSized t → slice_get p.methods m.name ≡ Some q → 0 < count_given (with_new t (wanted p k m q proto))
  with_some t k m q proto s e = set_some t.given m.name _ (let l = got_short p.methods m.name q e in omega (arith, l, s))

  -- a step leaves the tables as they are, where the method isn't loose, or gives it a proto
  pub data Step (t : Tables) (place : ℕ) (k : Class) (m : Method) : Type 0 where
    Stays : is_loose_at p facts o admitted t place k m ≡ false → behind_method p facts o admitted t place k m ≡ t → Step t place k m
    Gives : (q : MethodName) (proto : Proto) → slice_get p.methods m.name ≡ Some q → slice_get p.protos q.proto ≡ Some proto → is_loose p facts o admitted t place k m q proto ≡ true → behind_method p facts o admitted t place k m ≡ with_new t (wanted p k m q proto) → Step t place k m

  pub step : (t : Tables) (place : ℕ) (k : Class) (m : Method) → Step t place k m
  step t place k m = by (slice_get p.methods m.name) refl
    where
      by : (e : Option MethodName) → slice_get p.methods m.name ≡ e → Step t place k m
      by None f = Stays (ap (is_loose_named p facts o admitted t place k m) f) (ap (behind_entry p facts o admitted t place k m) f)
      by (Some q) f = by_proto (slice_get p.protos q.proto) refl
        where
          by_proto : (e : Option Proto) → slice_get p.protos q.proto ≡ e → Step t place k m
          by_proto None g = Stays (ap (is_loose_named p facts o admitted t place k m) f ∙ ap (is_loose_by p facts o admitted t place k m q) g) (ap (behind_entry p facts o admitted t place k m) f ∙ ap (behind_proto p facts o admitted t place k m q) g)
          by_proto (Some proto) g = test (is_loose p facts o admitted t place k m q proto) refl
            where
              test : (b : Bool) → is_loose p facts o admitted t place k m q proto ≡ b → Step t place k m
              test true x = Gives q proto f g x (ap (behind_entry p facts o admitted t place k m) f ∙ ap (behind_proto p facts o admitted t place k m q) g ∙ ap (λ z. if z then with_new t (wanted p k m q proto) else t) x)
              test false x = Stays (ap (is_loose_named p facts o admitted t place k m) f ∙ ap (is_loose_by p facts o admitted t place k m q) g ∙ x)
                  (ap (behind_entry p facts o admitted t place k m) f ∙ ap (behind_proto p facts o admitted t place k m q) g ∙ ap (λ z. if z then with_new t (wanted p k m q proto) else t) x)

  method_sized : (t : Tables) (place : ℕ) (k : Class) (m : Method) → IsSized t → IsSized (behind_method p facts o admitted t place k m)
  method_sized t place k m s = by (step t place k m)
    where
      by : Step t place k m → IsSized (behind_method p facts o admitted t place k m)
      by (Stays a e) = subst IsSized (sym e) s
      by (Gives q proto f y x e) = subst IsSized (sym e) (with_sized t k m q proto s)

  method_grows : (t : Tables) (place : ℕ) (k : Class) (m : Method) → IsSized t → 0 < count_given t → 0 < count_given (behind_method p facts o admitted t place k m)
  method_grows t place k m s l = by (step t place k m)
    where
      by : Step t place k m → 0 < count_given (behind_method p facts o admitted t place k m)
      by (Stays a e) = subst (λ u. 0 < count_given u) (sym e) l
      by (Gives q proto f y x e) = subst (λ u. 0 < count_given u) (sym e) (with_some t k m q proto s f)

  methods_sized : (t : Tables) (place : ℕ) (k : Class) (ms : List Method) → IsSized t → IsSized (behind_methods p facts o admitted t place k ms)
  methods_sized t place k [] s = s
  methods_sized t place k (m ∷ ms) s = methods_sized (behind_method p facts o admitted t place k m) place k ms (method_sized t place k m s)

  methods_grow : (t : Tables) (place : ℕ) (k : Class) (ms : List Method) → IsSized t → 0 < count_given t → 0 < count_given (behind_methods p facts o admitted t place k ms)
  methods_grow t place k [] s l = l
  methods_grow t place k (m ∷ ms) s l = methods_grow (behind_method p facts o admitted t place k m) place k ms (method_sized t place k m s) (method_grows t place k m s l)

  classes_grow : (t : Tables) (place : ℕ) (ks : List Class) → IsSized t → 0 < count_given t → 0 < count_given (behind_classes p facts o admitted t place ks)
  classes_grow t place [] s l = l
  classes_grow t place (k ∷ ks) s l = classes_grow (behind_methods p facts o admitted t place k k.methods) (suc place) ks (methods_sized t place k k.methods s) (methods_grow t place k k.methods s l)

  -- ---- none is given

  pub record NoneOf (t : Tables) (place : ℕ) (k : Class) (ms : List Method) : Type 0 where
    pub same : behind_methods p facts o admitted t place k ms ≡ t
    pub none : (i : ℕ) (m : Method) → slice_get ms i ≡ Some m → is_loose_at p facts o admitted t place k m ≡ false

  none_of : (t : Tables) (place : ℕ) (k : Class) (ms : List Method) → IsSized t → count_given (behind_methods p facts o admitted t place k ms) ≡ 0 → NoneOf t place k ms
  none_of t place k [] s e = record { same = refl; none = λ i m f. absurd (cc) }
  none_of t place k (m ∷ ms) s e = by (step t place k m) (λ g. none_of t place k ms s (ap (λ u. count_given (behind_methods p facts o admitted u place k ms)) (sym g) ∙ e))
    where
      by : Step t place k m → (behind_method p facts o admitted t place k m ≡ t → NoneOf t place k ms) → NoneOf t place k (m ∷ ms)
      by (Gives q proto f y x g) more =
          let l = methods_grow (behind_method p facts o admitted t place k m) place k ms (method_sized t place k m s) (subst (λ u. 0 < count_given u) (sym g) (with_some t k m q proto s f)) in
          absurd (omega (arith, l, e))
      by (Stays a g) more =
          let r = more g in
          record { same = ap (λ u. behind_methods p facts o admitted u place k ms) g ∙ r.same; none = each r.none a }
        where
          each : ((i : ℕ) (x : Method) → slice_get ms i ≡ Some x → is_loose_at p facts o admitted t place k x ≡ false) → is_loose_at p facts o admitted t place k m ≡ false → (i : ℕ) (x : Method) → slice_get (m ∷ ms) i ≡ Some x → is_loose_at p facts o admitted t place k x ≡ false
          each h b zero x f = ap (is_loose_at p facts o admitted t place k) (sym (some_same m x f)) ∙ b
          each h b (suc i) x f = h i x f

  none_in : (t : Tables) (place : ℕ) (ks : List Class) → IsSized t → count_given (behind_classes p facts o admitted t place ks) ≡ 0
      → (c i : ℕ) (k : Class) (m : Method) → slice_get ks c ≡ Some k → slice_get k.methods i ≡ Some m → is_loose_at p facts o admitted t (c + place) k m ≡ false
  none_in t place [] s e c i k m f g = absurd (cc)
  none_in t place (x ∷ ks) s e zero i k m f g =
      let same : x ≡ k = some_same x k f in
      let r = none_first t place x ks s e in
      ap (λ n. is_loose_at p facts o admitted t n k m) (let z : 0 + place ≡ place = omega arith in z) ∙ ap (λ y. is_loose_at p facts o admitted t place y m) (sym same) ∙ r.none i m (ap (λ (y : Class). slice_get y.methods i) same ∙ g)
    where
      none_first : (t : Tables) (place : ℕ) (x : Class) (ks : List Class) → IsSized t → count_given (behind_classes p facts o admitted t place (x ∷ ks)) ≡ 0 → NoneOf t place x x.methods
      none_first t place x ks s e = none_of t place x x.methods s (zero_if (count_given (behind_methods p facts o admitted t place x x.methods)) (λ l. let z = classes_grow (behind_methods p facts o admitted t place x x.methods) (suc place) ks (methods_sized t place x x.methods s) l in omega (arith, z, e)))
        where
          zero_if : (n : ℕ) → (0 < n → ⊥) → n ≡ 0
          zero_if zero h = refl
          zero_if (suc n) h = absurd (h (omega arith))
  none_in t place (x ∷ ks) s e (suc c) i k m f g =
      let r = none_of t place x x.methods s (zero_if (count_given (behind_methods p facts o admitted t place x x.methods)) (λ l. let z = classes_grow (behind_methods p facts o admitted t place x x.methods) (suc place) ks (methods_sized t place x x.methods s) l in omega (arith, z, e))) in
      ap (λ n. is_loose_at p facts o admitted t n k m) (let z : suc c + place ≡ c + suc place = omega arith in z)
      ∙ none_in t (suc place) ks s (ap (λ u. count_given (behind_classes p facts o admitted u (suc place) ks)) (sym r.same) ∙ e) c i k m f g
    where
      zero_if : (n : ℕ) → (0 < n → ⊥) → n ≡ 0
      zero_if zero h = refl
      zero_if (suc n) h = absurd (h (omega arith))

  replicate_long : (n : ℕ) (x : Option ℕ) → length (replicate n x) ≡ n
  replicate_long zero x = refl
  replicate_long (suc n) x = ap suc (replicate_long n x)

  pub none_counted : (n : ℕ) → count_by (λ (x : Option ℕ). is_some x) (replicate n None) ≡ 0
  none_counted zero = refl
  none_counted (suc n) = none_counted n

  pub none_left : count_given (judged p facts o admitted) ≡ 0 → NoneLeft p facts o admitted
  none_left e place i k m f g on =
      let z : count_given (behind_classes p facts o admitted (tables_of p) 0 p.classes) ≡ 0 = sym (ap (λ b. count_given (if b then behind_classes p facts o admitted (tables_of p) 0 p.classes else tables_of p)) on) ∙ e in
      ap (λ n. is_loose_at p facts o admitted (tables_of p) n k m) (let y : place ≡ place + 0 = omega arith in y) ∙ none_in (tables_of p) 0 p.classes (replicate_long (length p.methods) None) z place i k m f g

  pub none_judged : o.optimise ≡ false → count_given (judged p facts o admitted) ≡ 0
  none_judged e = ap (λ b. count_given (if b then behind_classes p facts o admitted (tables_of p) 0 p.classes else tables_of p)) e ∙ none_counted (length p.methods)
