-- A program that was read lays out.
use Rattle.std.proofs.Common.{◌≡◌, ℕ, zero, suc, ◌^◌, ◌+◌, ◌-◌, ◌*◌, ◌<◌, List, [], ◌∷◌, ◌++◌, length, drop, Some, None, Ok, refl, sym, ap, subst, ◌∙◌, arith, All}
use Rattle.std.proofs.lemmas.List.Elements.{All-nil, All-cons, All-head, All-tail}
use Rattle.dex_base.specs.Reading.{each}
use Rattle.dex_base.specs.Word.{u16_at}
use Rattle.dex_base.proofs.Words.{is_16}
use Rattle.program_model.specs.Items.{body_items}
use Rattle.program_model.specs.declared.body.Body.{Body}
use Rattle.program_model.specs.declared.program.Class.{Class}
use Rattle.program_model.specs.declared.program.Method.{Method}
use Rattle.program_model.specs.declared.program.Program.{Program}
use Rattle.code_read.specs.Code.{code_of}
use Rattle.dex_pools.specs.Finds.{RunOf}
use Rattle.dex_pools.proofs.Finding.{finds, raised}
use Rattle.dex_read.specs.Classes.{methods_of, marked_at, class_at}
use Rattle.dex_read.specs.Code.{gap, item_at, frame_at, units_at, sizes_for, of_code, body_at, lined_at, cells_with, method_with, coded_at, method_at}
use Rattle.dex_read.specs.Directory.{Marked, marked, set_at, sets_at, named_at, with_own_marks, with_parameter_marks, mark_field, mark_method, mark_parameters, directory_at}
use Rattle.dex_read.specs.Faults.{of_base}
use Rattle.dex_read.specs.File.{class_in, table_at, classes_at, program_at}
use Rattle.dex_read.specs.Header.{need_at}
use Rattle.dex_read.specs.Steps.{steps, change_at, for_each}
use Rattle.dex_read.specs.Tables.{sizes_in}
use Rattle.dex_read.specs.Word.{half_at, word_at}
use Rattle.dex_read.specs.declared.class_data.Listed.{Listed}
use Rattle.dex_read.specs.declared.class_data.Members.{Members}
use Rattle.dex_read.specs.declared.code.CodeItem.{CodeItem}
use Rattle.dex_read.specs.declared.members.Budget.{Budget}
use Rattle.dex_defs.specs.LaysOut.{LaysOutMethod, LaysOutBody, LaysOut}
use Rattle.layout_law.proofs.Methods.{MethodLies, ClassLies}
use Rattle.read_laws.proofs.Bounds.{AreBytes, word_below, word_is}
use Rattle.read_laws.proofs.ClassReading.{IsRead, class_read}
use Rattle.read_laws.proofs.FieldBounds.{AreUnits}
use Rattle.read_laws.proofs.FieldReading.{reads_steps}
use Rattle.read_laws.proofs.Readings.{Reads, anything, itself, weaker, done, either, next, lifted, reads_run}
use Rattle.read_laws.proofs.Told.{is_read}
use Rattle.layout_law.proofs.BodiesRead.{half_small, body_lies}

module _ (bytes : List ℕ) (are : AreBytes bytes) where
  half_below : (at n : ℕ) → half_at bytes at ≡ Ok n → n < 65536
  half_below at n h = half_small bytes at n are ((raised of_base (u16_at bytes at) (finds (u16_at bytes at) (is_16 bytes at))).found n h)

  -- ---- a body

  record IsText (n : ℕ) (units : List ℕ) : Type 0 where
    pub small : AreUnits units
    pub long : length units ≡ n

  no_units : AreUnits []
  no_units i = omega arith

  more_units : (u : ℕ) (us : List ℕ) → u < 65536 → AreUnits us → AreUnits (u ∷ us)
  more_units u us h more zero = h
  more_units u us h more (suc i) = more i

  reads_units : (at from n : ℕ) → Reads (IsText n) (each (λ i. half_at bytes (at + 2 * i)) from n)
  reads_units at from zero = weaker (each (λ i. half_at bytes (at + 2 * i)) from zero) (done []) (λ y e. subst (IsText 0) (sym e) (record { small = no_units; long = refl }))
  reads_units at from (suc n) = weaker (each (λ i. half_at bytes (at + 2 * i)) from (suc n))
      (next (itself (half_at bytes (at + 2 * from))) (λ u _. next (reads_units at (suc from) n) (λ us _. done (u ∷ us))))
      (λ y q. subst (IsText (suc n)) (sym q.2.2) (record { small = more_units q.0 q.2.0 (half_below (at + 2 * from) q.0 q.1) q.2.1.small; long = ap suc q.2.1.long }))

  reads_text : (at n : ℕ) → Reads (IsText n) (units_at bytes at n)
  unfolding units_at
  reads_text at n = reads_units at 0 n

  record IsSmall (item : CodeItem) : Type 0 where
    pub size : item.size < 2 ^ 32
    pub tries : item.tries < 65536

  reads_item : (at : ℕ) → Reads IsSmall (item_at bytes at)
  unfolding item_at
  reads_item at = weaker (item_at bytes at)
      (next (anything (need_at bytes at 16)) (λ begins _.
      next (anything (half_at bytes at)) (λ registers _.
      next (anything (half_at bytes (at + 2))) (λ ins _.
      next (itself (half_at bytes (at + 6))) (λ tries _.
      next (anything (word_at bytes (at + 8))) (λ debug _.
      next (itself (word_at bytes (at + 12))) (λ size _.
      next (anything (need_at bytes at (16 + 2 * size + gap tries size + 8 * tries))) (λ whole _.
      done (record { registers = registers; ins = ins; tries = tries; debug = debug; size = size; units_at = at + 16; tries_at = at + (16 + 2 * size + gap tries size) })))))))))
      (λ y q. let tries = q.2.2.2 in let size = tries.2.2 in
      subst IsSmall (sym size.2.2) (record { size = word_below bytes are (at + 12) size.0 (word_is bytes (at + 12) size.0 size.1); tries = half_below (at + 6) tries.0 tries.1 }))

  reads_body : (p : Program) (method : ℕ) (item : CodeItem) (left : ℕ) → IsSmall item → Reads (λ r. LaysOutBody r.0) (body_at bytes p method item left)
  unfolding body_at
  reads_body p method item left small = weaker (body_at bytes p method item left)
      (next (reads_text item.units_at item.size) (λ units text. lifted (of_code method)
      (weaker (code_of units (drop item.tries_at bytes) (sizes_for p item left)) (itself (code_of units (drop item.tries_at bytes) (sizes_for p item left)))
      (λ r h. body_lies bytes are item.tries_at (sizes_for p item left) small.tries units text.small (subst (λ (n : ℕ). n < 2 ^ 32) (sym text.long) small.size) r h))))
      (λ y q. q.2)

  -- ---- methods

  reads_coded : (p : Program) (e : Listed) (left : Budget) → Reads (λ r. MethodLies r.0) (coded_at bytes p e left)
  unfolding coded_at
  reads_coded p e left = weaker (coded_at bytes p e left)
      (next (reads_item e.code) (λ item small. next (anything (frame_at p e item)) (λ frame _. next (reads_body p e.number item left.items small) (λ b _.
      next (anything (lined_at bytes item.debug b.1 (left.items - body_items (Some b.0)))) (λ lines _. next (anything (cells_with b.0 left.cells)) (λ cells _.
      done (method_with e (Some b.0) lines.0, record { items = lines.1; cells = cells })))))))
      (λ y q. let b = q.2.2 in subst (λ (r : Method × Budget). MethodLies r.0) (sym b.2.2.2) b.1)

  reads_one : (p : Program) (e : Listed) (left : Budget) → Reads (λ r. MethodLies r.0) (method_at bytes p e left)
  reads_one p e left = either
      (λ _. weaker (Ok (method_with e None [], left)) (done (method_with e None [], left)) (λ y i. subst (λ (r : Method × Budget). MethodLies r.0) (sym i) tt))
      (λ _. reads_coded p e left)

  abbrev TheyLie : List Method → Type 0
  TheyLie ms = All MethodLies ms

  reads_each : (p : Program) (es : List Listed) (left : Budget) → Reads (λ r. TheyLie r.0) (for_each (method_at bytes p) es left)
  reads_each p [] left = weaker (for_each (method_at bytes p) [] left) (done ([], left)) (λ y i. subst (λ (r : List Method × Budget). TheyLie r.0) (sym i) (All-nil MethodLies))
  reads_each p (e ∷ es) left = weaker (for_each (method_at bytes p) (e ∷ es) left)
      (next (reads_one p e left) (λ y _. next (reads_each p es y.1) (λ ys _. done (y.0 ∷ ys.0, ys.1))))
      (λ y q. subst (λ (r : List Method × Budget). TheyLie r.0) (sym q.2.2) (All-cons MethodLies q.0.0 q.2.0.0 q.1 q.2.1))

  reads_methods : (p : Program) (listed : Members) (left : Budget) → Reads (λ r. TheyLie r.0) (methods_of bytes p listed left)
  unfolding methods_of
  reads_methods p listed left = reads_each p (listed.directs ++ listed.virtuals) left

  -- ---- annotations leave bodies as they are

  abbrev State : Type 0
  State = List Method × (ℕ × ℕ)

  changed : (change : Method → Method) → ((m : Method) → MethodLies m → MethodLies (change m)) → (place : ℕ) (ms : List Method) → TheyLie ms → TheyLie (change_at change place ms)
  changed change h place [] a = a
  changed change h zero (m ∷ ms) a = All-cons MethodLies (change m) ms (h m (All-head MethodLies m ms a)) (All-tail MethodLies m ms a)
  changed change h (suc place) (m ∷ ms) a = All-cons MethodLies m (change_at change place ms) (All-head MethodLies m ms a) (changed change h place ms (All-tail MethodLies m ms a))

  reads_own : (p : Program) (class : ℕ) (listed : List Listed) (at i : ℕ) (s : State) → TheyLie s.0 → Reads (λ (r : State). TheyLie r.0) (mark_method bytes p class listed at i s)
  unfolding mark_method
  reads_own p class listed at i s h = weaker (mark_method bytes p class listed at i s)
      (next (anything (named_at bytes class (sizes_in p).methods listed at i s.1.0)) (λ named _. next (anything (set_at bytes p named.1.1 s.1.1)) (λ marks _.
      done (change_at (with_own_marks marks.0) named.0 s.0, (named.1.0, marks.1)))))
      (λ y q. let marks = q.2 in subst (λ (r : State). TheyLie r.0) (sym marks.2) (changed (with_own_marks marks.0.0) (λ m l. l) q.0.0 s.0 h))

  reads_parameters : (p : Program) (class : ℕ) (listed : List Listed) (at i : ℕ) (s : State) → TheyLie s.0 → Reads (λ (r : State). TheyLie r.0) (mark_parameters bytes p class listed at i s)
  unfolding mark_parameters
  reads_parameters p class listed at i s h = weaker (mark_parameters bytes p class listed at i s)
      (next (anything (named_at bytes class (sizes_in p).methods listed at i s.1.0)) (λ named _. next (anything (sets_at bytes p named.1.1 s.1.1)) (λ marks _.
      done (change_at (with_parameter_marks marks.0) named.0 s.0, (named.1.0, marks.1)))))
      (λ y q. let marks = q.2 in subst (λ (r : State). TheyLie r.0) (sym marks.2) (changed (with_parameter_marks marks.0.0) (λ m l. l) q.0.0 s.0 h))

  reads_directory : (p : Program) (class : ℕ) (listed : Members) (at : ℕ) (fields : List _) (methods : List Method) (left : ℕ) → TheyLie methods → Reads (λ (m : Marked). TheyLie m.methods) (directory_at bytes p class listed at fields methods left)
  unfolding directory_at
  reads_directory p class listed at fields methods left m = weaker (directory_at bytes p class listed at fields methods left)
      (next (anything (need_at bytes at 16)) (λ begins _.
      next (anything (word_at bytes at)) (λ set _.
      next (anything (word_at bytes (at + 4))) (λ field_count _.
      next (anything (word_at bytes (at + 8))) (λ method_count _.
      next (anything (word_at bytes (at + 12))) (λ parameter_count _.
      next (anything (need_at bytes at (16 + 8 * field_count + 8 * method_count + 8 * parameter_count))) (λ whole _.
      next (anything (set_at bytes p set left)) (λ marks _.
      next (anything (steps (mark_field bytes p class (listed.statics ++ listed.instances) (at + 16)) 0 field_count (fields, (0, marks.1)))) (λ own_fields _.
      next (reads_steps (λ (s : State). TheyLie s.0) (mark_method bytes p class (listed.directs ++ listed.virtuals) (at + 16 + 8 * field_count))
      (reads_own p class (listed.directs ++ listed.virtuals) (at + 16 + 8 * field_count)) 0 method_count (methods, (0, own_fields.1.1)) m) (λ own h.
      next (reads_steps (λ (s : State). TheyLie s.0) (mark_parameters bytes p class (listed.directs ++ listed.virtuals) (at + 16 + 8 * field_count + 8 * method_count))
      (reads_parameters p class (listed.directs ++ listed.virtuals) (at + 16 + 8 * field_count + 8 * method_count)) 0 parameter_count (own.0, (0, own.1.1)) h) (λ all _.
      done (marked marks.0 own_fields.0 all.0 all.1.1))))))))))))
      (λ y q. let own = q.2.2.2.2.2.2.2.2 in let all = own.2 in subst (λ (m : Marked). TheyLie m.methods) (sym all.2) all.1)

  reads_marked : (p : Program) (class : ℕ) (listed : Members) (offset : ℕ) (fields : List _) (methods : List Method) (left : ℕ) → TheyLie methods → Reads (λ (m : Marked). TheyLie m.methods) (marked_at bytes p class listed offset fields methods left)
  unfolding marked_at
  reads_marked p class listed offset fields methods left m = either
      (λ _. weaker (Ok (marked [] fields methods left)) (done (marked [] fields methods left)) (λ y e. subst (λ (m : Marked). TheyLie m.methods) (sym e) m))
      (λ _. reads_directory p class listed offset fields methods left m)

  -- ---- classes

  reads_class : (p : Program) (at place : ℕ) (left : Budget) → Reads (λ r. ClassLies r.0) (class_at bytes p at place left)
  reads_class p at place left = weaker (class_at bytes p at place left) (class_read bytes p at place left) (λ r q.
      let m = (reads_methods p q.listed (record { items = q.interfaces.1; cells = left.cells })).found q.methods q.methods_are in
      let k = (reads_marked p place q.listed q.def.annotations _ q.methods.0 q.methods.1.items m).found q.marked q.marked_are in
      subst ClassLies (sym q.is) k)

  all_of : (from : ℕ) (s : Budget) (cs : List Class) (stop : Budget) → RunOf (λ i s r. ClassLies r.0) from s cs stop → All ClassLies cs
  all_of from s [] stop h = All-nil ClassLies
  all_of from s (c ∷ cs) stop h = All-cons ClassLies c cs h.1 (all_of (suc from) h.0 cs stop h.2)

  reads_table : (p : Program) (count offset : ℕ) (left : Budget) → Reads (λ r. All ClassLies r.0) (table_at bytes p count offset left)
  unfolding table_at
  reads_table p count offset left = either
      (λ _. weaker (Ok ([], left)) (done ([], left)) (λ y e. subst (λ (r : List Class × Budget). All ClassLies r.0) (sym e) (All-nil ClassLies)))
      (λ _. weaker _ (next (anything (need_at bytes offset (32 * count))) (λ whole _. reads_run (λ i s r. ClassLies r.0) (class_in bytes p offset) (λ i s. reads_class p (offset + 32 * i) i s) 0 count left))
      (λ y q. all_of 0 left y.0 y.1 q.2))

  reads_classes : (p : Program) (left : Budget) → Reads (All ClassLies) (classes_at bytes p left)
  unfolding classes_at
  reads_classes p left = weaker (classes_at bytes p left)
      (next (anything (word_at bytes 96)) (λ count _. next (anything (word_at bytes 100)) (λ offset _. next (reads_table p count offset left) (λ cs _. done cs.0))))
      (λ y q. subst (All ClassLies) (sym q.2.2.2) q.2.2.1)

  pub program_lies : (p : Program) → program_at bytes ≡ Ok p → LaysOut p
  program_lies p h =
      let r = is_read bytes p h in
      subst LaysOut (sym r.is) ((reads_classes r.tables (record { items = r.left; cells = 0 })).found r.classes r.filled)
