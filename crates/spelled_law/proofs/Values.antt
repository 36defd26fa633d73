-- Values, annotations and sets of annotations that are read are spelled where they stand.
use Rattle.std.proofs.Common.{◌≡◌, ◌≤◌, ◌<◌, ℕ, zero, suc, ◌+◌, ◌-◌, ◌*◌, ◌/◌, ◌%◌, ◌⊎◌, inl, inr, true, false, eqb, List, [], ◌∷◌, length, take, drop, Result, Ok, refl, sym, ap, subst, ◌∙◌, arith, true≢false}
use Rattle.std.specs.Prelude.{slice_index, ◌==◌}
use Rattle.std.specs.Int.{w32}
use Rattle.std.proofs.lemmas.Bool.{ltb-true, ltb-false, leb-true, eqb-true, eq-eqb}
use Rattle.std.proofs.lemmas.List.{length-take-le, length-drop}
use Rattle.dex_base.specs.Reading.{◌>>=◌}
use Rattle.dex_base.specs.Word.{Is32}
use Rattle.dex_base.specs.Leb.{IsUlebAt}
use Rattle.dex_base.specs.Decides.{Each, ChainOf}
use Rattle.program_model.specs.declared.limits.Counted.TheVariants.{Items}
use Rattle.program_model.specs.declared.program.Program.{Program}
use Rattle.program_model.specs.declared.value.EncValue.{EncValue}
use Rattle.program_model.specs.declared.value.EncValue.TheVariants as value
use Rattle.program_model.specs.declared.value.Element.{Element}
use Rattle.program_model.specs.declared.value.Note.{Note, roll-Note}
use Rattle.program_model.specs.declared.value.Mark.{Mark}
use Rattle.dex_pools.specs.declared.fault.PoolFault.{PoolFault}
use Rattle.dex_pools.specs.declared.fault.Table.TheVariants.{Members}
use Rattle.dex_pools.specs.declared.scalar.TableSizes.{TableSizes}
use Rattle.dex_pools.specs.Finds.{RunOf}
use Rattle.dex_pools.specs.Items.{spend, count_at}
use Rattle.dex_pools.specs.Marks.{mark_at, marked_at, mark_below, marks_at, parameter_at, parameters_marks_at}
use Rattle.dex_pools.specs.Value.{byte_at, few_at, number_index_at, most_argument, is_within, zero_extended, numeric, size_for, naming, named_at, scalar_at, counted, array_in, element_in, element_below, note_in, of_kind, value_in, value_at, whole_note_at}
use Rattle.dex_pools.proofs.Fields.{finds_word, finds_number, finds_ascending}
use Rattle.dex_defs.specs.Here.{Here}
use Rattle.dex_defs.specs.Values.{tag_at, argument_at, HasTag, HasFew, AreItems, IsElement, IsNote, IsValueIn, Number, Name, Array, Annotation, Null, Boolean, IsValue}
use Rattle.dex_defs.specs.Annotations.{IsMark, IsMarkOf, AreMarks, AreMarksOf, IsSetOf, AreParameterMarks, AreParameterMarksOf}
use Rattle.dex_read.specs.Directory.{set_at, sets_at}
use Rattle.dex_read.specs.Faults.{of_pool}
use Rattle.dex_read.specs.Tables.{sizes_in}
use Rattle.file_laws.specs.Founds.{Founds}
use Rattle.file_laws.proofs.Founding.{known, weaker, done, failed, when, either, next, lifted, founds_run}
use Rattle.file_laws.proofs.Bodies.{whatever}

-- ---- pairs, and runs that are chains

abbrev pub with : {A B : Type 0} → A → B → A × B
with a b = (a, b)

pub paired : {A B : Type 0} {a b : A} {m n : B} → a ≡ b → m ≡ n → with a m ≡ with b n
paired {a = a} {n = n} e f = ap (λ x. with a x) f ∙ ap (λ x. with x n) e

pub chain_of : {X : Type 0} (Is : ℕ → X × ℕ → Type 0) (from : ℕ) (s : ℕ × ℕ) (xs : List X) (stop : ℕ × ℕ) → RunOf (λ i s r. Is s.0 (r.0, r.1.0)) from s xs stop → ChainOf Is s.0 xs stop.0
chain_of Is from s [] stop h = ap (λ (t : ℕ × ℕ). t.0) h
chain_of Is from s (x ∷ xs) stop h = (h.0.0, h.1, chain_of Is (suc from) h.0 xs stop h.2)

pub each_of : {X S : Type 0} (Is : ℕ → X → Type 0) (from : ℕ) (s : S) (xs : List X) (stop : S) → RunOf (λ i s r. Is i r.0) from s xs stop → Each Is from xs
each_of Is from s [] stop h = tt
each_of Is from s (x ∷ xs) stop h = (h.1, each_of Is (suc from) h.0 xs stop h.2)

-- ---- bytes

pub record IsByte (bytes : List ℕ) (at b : ℕ) : Type 0 where
  pub inside : at < length bytes
  pub is : b ≡ slice_index bytes at

pub founds_byte : (bytes : List ℕ) (at : ℕ) → Founds (IsByte bytes at) (byte_at bytes at)
unfolding byte_at
founds_byte bytes at = weaker (byte_at bytes at) (when _ (done (slice_index bytes at))) (λ y p. record { inside = ltb-true _ _ p.0; is = p.1 })

pub record IsFew (bytes : List ℕ) (at count : ℕ) (few : List ℕ) : Type 0 where
  pub many : length few ≡ count
  pub here : Here bytes (at + 1) few

few_is : (bytes : List ℕ) (at count : ℕ) → at + 1 + count ≤ length bytes → length (drop (at + 1) bytes) ≡ count + (length bytes - (at + 1 + count)) → IsFew bytes at count (take count (drop (at + 1) bytes))
few_is bytes at count h room =
    let long : length (take count (drop (at + 1) bytes)) ≡ count = length-take-le count (drop (at + 1) bytes) (omega (arith, room)) in
    record { many = long; here = record { inside = omega (arith, long, h); is = ap (λ n. take n (drop (at + 1) bytes)) long } }

pub founds_few : (bytes : List ℕ) (at count : ℕ) → Founds (IsFew bytes at count) (few_at bytes at count)
unfolding few_at
founds_few bytes at count = weaker (few_at bytes at count) (when _ (done (take count (drop (at + 1) bytes))))
    (λ y p. let h : at + 1 + count ≤ length bytes = leb-true _ _ p.0 in
    subst (IsFew bytes at count) (sym p.1) (few_is bytes at count h (omega (arith, length-drop (at + 1) bytes, h))))

pub record IsIndex (bytes : List ℕ) (at size : ℕ) (r : ℕ × ℕ) : Type 0 where
  pub is : IsUlebAt bytes at r
  pub below : r.0 < size

pub founds_index : (bytes : List ℕ) (at size : ℕ) → Founds (IsIndex bytes at size) (number_index_at bytes at size)
unfolding number_index_at
founds_index bytes at size = weaker (number_index_at bytes at size) (next (known (finds_number bytes at)) (λ n _. when _ (done n)))
    (λ y p. subst (IsIndex bytes at size) (sym p.2.1) (record { is = p.1; below = ltb-true _ _ p.2.0 }))

-- ---- values in values

abbrev Inner : Type 0
Inner = ℕ × ℕ → Result (EncValue × (ℕ × ℕ)) PoolFault

abbrev Place : Type 1
Place = ℕ → EncValue × ℕ → Type 0

-- each value that is read is spelled
abbrev Spelled : Place → Inner → Type 0
Spelled Is inner = (s : ℕ × ℕ) → Founds (λ r. Is s.0 (r.0, r.1.0)) (inner s)

module _ (bytes : List ℕ) (sizes : TableSizes) (Is : Place) (inner : Inner) (each : Spelled Is inner) where
  pub founds_counted : (i : ℕ) (s : ℕ × ℕ) → Founds (λ r. Is s.0 (r.0, r.1.0)) (counted inner i s)
  founds_counted i s = weaker (counted inner i s) (next (whatever (spend Items 1 s.1)) (λ behind _. each (s.0, behind))) (λ y q. q.2)

  founds_array : (s : ℕ × ℕ) → Founds (λ r. AreItems bytes Is s.0 (r.0, r.1.0)) (array_in inner bytes s)
  unfolding array_in
  founds_array s = weaker (array_in inner bytes s)
      (next (known (finds_number bytes s.0)) (λ count _. founds_run (λ i s r. Is s.0 (r.0, r.1.0)) (counted inner) founds_counted 0 count.0 (count.1, s.1)))
      (λ y q. record {
        begin = q.0.1;
        count = subst (λ n. IsUlebAt bytes s.0 (n, q.0.1)) (sym q.2.0) q.1;
        are = chain_of Is 0 (q.0.1, s.1) y.0 y.1 q.2.1;
      })

  pub founds_element : (i : ℕ) (s : ℕ × ℕ) → Founds (λ r. IsElement bytes sizes Is s.0 (r.0, r.1.0)) (element_in inner bytes sizes i s)
  unfolding element_in
  founds_element i s = weaker (element_in inner bytes sizes i s)
      (next (whatever (spend Items 1 s.1)) (λ behind _. next (founds_index bytes s.0 sizes.strings) (λ name _. next (each (name.1, behind)) (λ v _.
      done (record { name = name.0; value = v.0 }, v.1)))))
      (λ y q. let n = q.2 in let v = n.2 in
      subst (λ (r : Element × (ℕ × ℕ)). IsElement bytes sizes Is s.0 (r.0, r.1.0)) (sym v.2) (record { mid = n.0.1; name = n.1.is; below = n.1.below; value = v.1 }))

  pub founds_note : (s : ℕ × ℕ) → Founds (λ r. IsNote bytes sizes Is s.0 (r.0, r.1.0)) (note_in inner bytes sizes s)
  unfolding note_in
  founds_note s = weaker (note_in inner bytes sizes s)
      (next (founds_index bytes s.0 sizes.types) (λ class _. next (known (finds_number bytes class.1)) (λ count _.
      next (founds_run (λ i s r. IsElement bytes sizes Is s.0 (r.0, r.1.0)) (element_in inner bytes sizes) founds_element 0 count.0 (count.1, s.1)) (λ elements _.
      next (known (finds_ascending element_below Members elements.0)) (λ order _. done (roll-Note (record { class = class.0; elements = elements.0 }), elements.1))))))
      (λ y q. let count = q.2 in let elements = count.2 in let order = elements.2 in
      subst (λ (r : Note × (ℕ × ℕ)). IsNote bytes sizes Is s.0 (r.0, r.1.0)) (sym order.2) (record {
        class = q.0.0;
        mid = q.0.1;
        begin = count.0.1;
        is_class = q.1.is;
        below = q.1.below;
        elements = elements.0.0;
        count = subst (λ n. IsUlebAt bytes q.0.1 (n, count.0.1)) (sym elements.1.0) count.1;
        are = chain_of (IsElement bytes sizes Is) 0 (count.0.1, s.1) elements.0.0 elements.0.1 elements.1.1;
        ascend = order.1;
        is = refl;
      }))

  -- a value with its first byte
  abbrev Whole : ℕ × ℕ → EncValue × (ℕ × ℕ) → Type 0
  Whole s r = HasTag bytes s.0 → IsValueIn bytes sizes Is s.0 (r.0, r.1.0)

  record IsScalar (at : ℕ) (v : EncValue) : Type 0 where
    few : List ℕ
    are : IsFew bytes at (argument_at bytes at + 1) few
    is : ((tag_at bytes at < 23) × (v ≡ numeric (tag_at bytes at) few))
        ⊎ ((23 ≤ tag_at bytes at) × ((zero_extended w32 few < size_for sizes (tag_at bytes at)) × (v ≡ naming (tag_at bytes at) (zero_extended w32 few))))

  founds_scalar : (at : ℕ) → Founds (IsScalar at) (scalar_at bytes sizes at (tag_at bytes at) (argument_at bytes at + 1))
  unfolding scalar_at
  founds_scalar at = weaker (scalar_at bytes sizes at (tag_at bytes at) (argument_at bytes at + 1))
      (next (founds_few bytes at (argument_at bytes at + 1)) (λ few _. either
      {Is = λ v. ((tag_at bytes at < 23) × (v ≡ numeric (tag_at bytes at) few))
      ⊎ ((23 ≤ tag_at bytes at) × ((zero_extended w32 few < size_for sizes (tag_at bytes at)) × (v ≡ naming (tag_at bytes at) (zero_extended w32 few))))}
      (λ low. weaker (Ok (numeric (tag_at bytes at) few)) (done (numeric (tag_at bytes at) few)) (λ y e. inl (ltb-true _ _ low, e)))
      (λ high. weaker (named_at sizes at (tag_at bytes at) (zero_extended w32 few)) (when _ (done (naming (tag_at bytes at) (zero_extended w32 few)))) (λ y e. inr (ltb-false _ _ high, (ltb-true _ _ e.0, e.1))))))
      (λ y q. record { few = q.0; are = q.1; is = q.2 })

  tag_small : (at : ℕ) → tag_at bytes at < 32
  tag_small at = omega arith

  by_tag : (at : ℕ) → (tag_at bytes at == 28) ≡ false → (tag_at bytes at == 29) ≡ false → (tag_at bytes at == 30) ≡ false → (tag_at bytes at == 31) ≡ false → tag_at bytes at < 28
  by_tag at a b c d =
      let no : (n : ℕ) → (tag_at bytes at == n) ≡ false → tag_at bytes at ≡ n → ⊥ = λ n e is. true≢false (sym (eq-eqb (tag_at bytes at) n is) ∙ e) in
      omega (arith, tag_small at, no 28 a, no 29 b, no 30 c, no 31 d)

  scalar_is : (s : ℕ × ℕ) (v : EncValue) (r : EncValue × (ℕ × ℕ)) → tag_at bytes s.0 < 28 → IsScalar s.0 v → r ≡ with v (with (s.0 + 1 + (argument_at bytes s.0 + 1)) s.1) → Whole s r
  scalar_is s v r low h e tag =
      let few : HasFew bytes s.0 h.few = record { many = h.are.many; here = h.are.here } in
      let stop : s.0 + 1 + (argument_at bytes s.0 + 1) ≡ s.0 + 1 + length h.few = ap (λ n. s.0 + 1 + n) (sym h.are.many) in
      let is : (x : EncValue) → v ≡ x → with r.0 r.1.0 ≡ with x (s.0 + 1 + length h.few) = λ x same. paired (ap (λ (q : EncValue × (ℕ × ℕ)). q.0) e ∙ same) (ap (λ (q : EncValue × (ℕ × ℕ)). q.1.0) e ∙ stop) in
      elim h.is [
        | inl p ↦ Number h.few tag p.0 few (is (numeric (tag_at bytes s.0) h.few) p.1)
        | inr p ↦ Name h.few tag p.0 low few p.1.0 (is (naming (tag_at bytes s.0) (zero_extended w32 h.few)) p.1.1)
      ]

  founds_kind : (s : ℕ × ℕ) → Founds (Whole s) (of_kind inner bytes sizes s (tag_at bytes s.0) (argument_at bytes s.0))
  founds_kind s = either
      (λ a. weaker (array_in inner bytes (s.0 + 1, s.1) >>= λ r. Ok (value.Array r.0, r.1))
      (next (founds_array (s.0 + 1, s.1)) (λ r _. done (value.Array r.0, r.1)))
      (λ y q tag. Array q.0.0 q.0.1.0 tag (eqb-true _ _ a) q.1 (ap (λ (r : EncValue × (ℕ × ℕ)). with r.0 r.1.0) q.2)))
      (λ a. either
      (λ b. weaker (note_in inner bytes sizes (s.0 + 1, s.1) >>= λ r. Ok (value.Annotation r.0, r.1))
      (next (founds_note (s.0 + 1, s.1)) (λ r _. done (value.Annotation r.0, r.1)))
      (λ y q tag. Annotation q.0.0 q.0.1.0 tag (eqb-true _ _ b) q.1 (ap (λ (r : EncValue × (ℕ × ℕ)). with r.0 r.1.0) q.2)))
      (λ b. either
      (λ c. weaker (Ok (value.Null, (s.0 + 1, s.1))) (done (value.Null, (s.0 + 1, s.1)))
      (λ y q tag. Null tag (eqb-true _ _ c) (ap (λ (r : EncValue × (ℕ × ℕ)). with r.0 r.1.0) q)))
      (λ c. either
      (λ d. weaker (Ok (value.Bool (argument_at bytes s.0 == 1), (s.0 + 1, s.1))) (done (value.Bool (argument_at bytes s.0 == 1), (s.0 + 1, s.1)))
      (λ y q tag. Boolean tag (eqb-true _ _ d) (ap (λ (r : EncValue × (ℕ × ℕ)). with r.0 r.1.0) q)))
      (λ d. weaker (scalar_at bytes sizes s.0 (tag_at bytes s.0) (argument_at bytes s.0 + 1) >>= λ v. Ok (v, (s.0 + 1 + (argument_at bytes s.0 + 1), s.1)))
      (next (founds_scalar s.0) (λ v _. done (v, (s.0 + 1 + (argument_at bytes s.0 + 1), s.1))))
      (λ y q. scalar_is s q.0 y (by_tag s.0 a b c d) q.1 q.2)))))

  founds_layer : (s : ℕ × ℕ) → Founds (λ r. IsValueIn bytes sizes Is s.0 (r.0, r.1.0)) (value_in inner bytes sizes s)
  unfolding value_in
  founds_layer s = weaker (value_in inner bytes sizes s)
      (next (founds_byte bytes s.0) (λ tag is. when _ (subst (λ (t : ℕ). Founds (Whole s) (of_kind inner bytes sizes s (t % 32) (t / 32))) (sym is.is) (founds_kind s))))
      (λ y q. q.2.1 (q.1.inside, subst (λ (t : ℕ). is_within (t / 32) (most_argument (t % 32)) ≡ true) q.1.is q.2.0))

pub founds_value : (bytes : List ℕ) (sizes : TableSizes) (depth : ℕ) (s : ℕ × ℕ) → Founds (λ r. IsValue bytes sizes depth s.0 (r.0, r.1.0)) (value_at depth bytes sizes s)
founds_value bytes sizes zero s = failed _
founds_value bytes sizes (suc depth) s = founds_layer bytes sizes (IsValue bytes sizes depth) (value_at depth bytes sizes) (founds_value bytes sizes depth) s

-- ---- annotations

founds_mark : (bytes : List ℕ) (sizes : TableSizes) (at left : ℕ) → Founds (λ r. IsMark bytes sizes at r.0) (mark_at bytes sizes at left)
unfolding mark_at whole_note_at
founds_mark bytes sizes at left = weaker (mark_at bytes sizes at left)
    (next (founds_byte bytes at) (λ visibility _. next (founds_note bytes sizes (IsValue bytes sizes 64) (value_at 64 bytes sizes) (founds_value bytes sizes 64) (at + 1, left)) (λ note _.
    done (record { visibility = visibility; note = note.0 }, note.1.1))))
    (λ y q. subst (λ (r : Mark × ℕ). IsMark bytes sizes at r.0) (sym q.2.2) (record { inside = q.1.inside; visibility = q.1.is; stop = q.2.0.1.0; note = q.2.1 }))

pub founds_marked : (bytes : List ℕ) (sizes : TableSizes) (at i left : ℕ) → Founds (λ r. IsMarkOf bytes sizes at i r.0) (marked_at bytes sizes at i left)
unfolding marked_at
founds_marked bytes sizes at i left = weaker (marked_at bytes sizes at i left)
    (next (whatever (spend Items 1 left)) (λ behind _. next (known (finds_word bytes (at + 4 + 4 * i))) (λ offset _. founds_mark bytes sizes offset behind)))
    (λ y q. record { offset = q.2.0; is = q.2.1; is_mark = q.2.2 })

pub founds_count : (bytes : List ℕ) (at width : ℕ) → Founds (Is32 bytes at) (count_at bytes at width)
unfolding count_at
founds_count bytes at width = weaker (count_at bytes at width) (next (known (finds_word bytes at)) (λ count _. when _ (done count))) (λ y q. subst (Is32 bytes at) (sym q.2.1) q.1)

founds_marks : (bytes : List ℕ) (sizes : TableSizes) (at left : ℕ) → Founds (λ r. AreMarks bytes sizes at r.0) (marks_at bytes sizes at left)
unfolding marks_at
founds_marks bytes sizes at left = weaker (marks_at bytes sizes at left)
    (next (founds_count bytes at 4) (λ count _.
    next (founds_run (λ i s r. IsMarkOf bytes sizes at i r.0) (marked_at bytes sizes at) (founds_marked bytes sizes at) 0 count left) (λ marks _.
    next (known (finds_ascending mark_below Members marks.0)) (λ order _. done marks))))
    (λ y q. let marks = q.2 in let order = marks.2 in
    subst (λ (r : List Mark × ℕ). AreMarks bytes sizes at r.0) (sym order.2) (record {
      count = subst (Is32 bytes at) (sym marks.1.0) q.1;
      are = each_of (IsMarkOf bytes sizes at) 0 left marks.0.0 marks.0.1 marks.1.1;
      ascend = order.1;
    }))

marks_by : (bytes : List ℕ) (sizes : TableSizes) (offset : ℕ) (marks : List Mark) → (offset ≡ 0 → ⊥) → AreMarks bytes sizes offset marks → AreMarksOf bytes sizes offset marks
marks_by bytes sizes zero marks other h = absurd (other refl)
marks_by bytes sizes (suc k) marks other h = h

none_by : (bytes : List ℕ) (sizes : TableSizes) (offset : ℕ) → offset ≡ 0 → AreMarksOf bytes sizes offset []
none_by bytes sizes offset e = subst (λ n. AreMarksOf bytes sizes n []) (sym e) refl

not_zero : (n : ℕ) → eqb n 0 ≡ false → n ≡ 0 → ⊥
not_zero n e is = true≢false (sym (eq-eqb n 0 is) ∙ e)

pub founds_set : (bytes : List ℕ) (p : Program) (offset left : ℕ) → Founds (λ r. AreMarksOf bytes (sizes_in p) offset r.0) (set_at bytes p offset left)
unfolding set_at
founds_set bytes p offset left = either
    (λ e. weaker (Ok ([], left)) (done ([], left)) (λ y q. subst (λ (r : List Mark × ℕ). AreMarksOf bytes (sizes_in p) offset r.0) (sym q) (none_by bytes (sizes_in p) offset (eqb-true _ _ e))))
    (λ e. weaker _ (lifted of_pool (founds_marks bytes (sizes_in p) offset left)) (λ y q. marks_by bytes (sizes_in p) offset y.0 (not_zero offset e) q))

pub founds_parameter : (bytes : List ℕ) (sizes : TableSizes) (at i left : ℕ) → Founds (λ r. IsSetOf bytes sizes at i r.0) (parameter_at bytes sizes at i left)
unfolding parameter_at
founds_parameter bytes sizes at i left = weaker (parameter_at bytes sizes at i left)
    (next (whatever (spend Items 1 left)) (λ behind _. next (known (finds_word bytes (at + 4 + 4 * i))) (λ offset _. either {Is = λ (r : List Mark × ℕ). AreMarksOf bytes sizes offset r.0}
    (λ e. weaker (Ok ([], behind)) (done ([], behind)) (λ y q. subst (λ (r : List Mark × ℕ). AreMarksOf bytes sizes offset r.0) (sym q) (none_by bytes sizes offset (eqb-true _ _ e))))
    (λ e. weaker _ (founds_marks bytes sizes offset behind) (λ y q. marks_by bytes sizes offset y.0 (not_zero offset e) q)))))
    (λ y q. record { offset = q.2.0; is = q.2.1; are = q.2.2 })

founds_parameters : (bytes : List ℕ) (sizes : TableSizes) (at left : ℕ) → Founds (λ r. AreParameterMarks bytes sizes at r.0) (parameters_marks_at bytes sizes at left)
unfolding parameters_marks_at
founds_parameters bytes sizes at left = weaker (parameters_marks_at bytes sizes at left)
    (next (founds_count bytes at 4) (λ count _. founds_run (λ i s r. IsSetOf bytes sizes at i r.0) (parameter_at bytes sizes at) (founds_parameter bytes sizes at) 0 count left))
    (λ y q. record { count = subst (Is32 bytes at) (sym q.2.0) q.1; are = each_of (IsSetOf bytes sizes at) 0 left y.0 y.1 q.2.1 })

sets_by : (bytes : List ℕ) (sizes : TableSizes) (offset : ℕ) (marks : List (List Mark)) → (offset ≡ 0 → ⊥) → AreParameterMarks bytes sizes offset marks → AreParameterMarksOf bytes sizes offset marks
sets_by bytes sizes zero marks other h = absurd (other refl)
sets_by bytes sizes (suc k) marks other h = h

pub founds_sets : (bytes : List ℕ) (p : Program) (offset left : ℕ) → Founds (λ r. AreParameterMarksOf bytes (sizes_in p) offset r.0) (sets_at bytes p offset left)
unfolding sets_at
founds_sets bytes p offset left = either
    (λ e. weaker (Ok ([], left)) (done ([], left)) (λ y q. subst (λ (r : List (List Mark) × ℕ). AreParameterMarksOf bytes (sizes_in p) offset r.0) (sym q)
    (subst (λ n. AreParameterMarksOf bytes (sizes_in p) n []) (sym (eqb-true offset 0 e)) refl)))
    (λ e. weaker _ (lifted of_pool (founds_parameters bytes (sizes_in p) offset left)) (λ y q. sets_by bytes (sizes_in p) offset y.0 (not_zero offset e) q))
