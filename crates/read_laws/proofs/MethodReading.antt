-- Methods as they are read, and_both the directory of annotations.
use Rattle.std.proofs.Common.{◌≡◌, ℕ, Bool, true, false, not, leb, List, [], ◌∷◌, ◌++◌, map, Option, Some, None, is_none, Ok, refl, sym, ap, subst, ◌∙◌}
use Rattle.std.specs.Prelude.{◌&&◌, ◌||◌, ◌==◌, slice_get}
use Rattle.std.specs.List.{list_all}
use Rattle.std.proofs.lemmas.List.Folds.{list_all-map, list_all-append}
use Rattle.lemmas.proofs.Bools.{and_both, and_parts}
use Rattle.lemmas.proofs.Lists.{all_more}
use Rattle.program_model.specs.Neighbours.{neighbours}
use Rattle.program_model.specs.Distinct.{own_method_key, all_differ, differ_from}
use Rattle.program_model.specs.LineRules.{lines_fit}
use Rattle.program_model.specs.Texts.{first_unit}
use Rattle.program_model.specs.MemberRules.{is_static, is_private, lacks_code, class_of_method, is_class_number, name_of_method, is_direct, proto_of, takes_words, frame_fits, code_fits, method_fits, methods_in_order, methods_fit}
use Rattle.program_model.specs.ValueRules.{marks_fit}
use Rattle.program_model.specs.declared.body.Body.{Body}
use Rattle.program_model.specs.declared.program.Method.{Method}
use Rattle.program_model.specs.declared.program.Program.{Program}
use Rattle.program_model.specs.declared.value.Mark.{Mark}
use Rattle.dex_read.specs.ClassData.{agree, method_suits, is_direct_entry, place_in}
use Rattle.dex_read.specs.Classes.{methods_of}
use Rattle.dex_read.specs.Code.{frame_at, cells_with, method_with, coded_at, method_at}
use Rattle.dex_read.specs.Directory.{with_own_marks, with_parameter_marks, named_at, mark_method, mark_parameters}
use Rattle.dex_read.specs.Steps.{change_at, for_each}
use Rattle.dex_read.specs.Tables.{sizes_in}
use Rattle.dex_read.specs.declared.class_data.Listed.{Listed}
use Rattle.dex_read.specs.declared.class_data.Members.{Members}
use Rattle.dex_read.specs.declared.code.CodeItem.{CodeItem}
use Rattle.dex_read.specs.declared.members.Budget.{Budget}
use Rattle.read_laws.proofs.Bounds.{AreBytes}
use Rattle.read_laws.proofs.CodeReading.{HasFrame, reads_item, reads_body}
use Rattle.read_laws.proofs.FieldReading.{AreListed, change_keeps, change_all, no_marks}
use Rattle.read_laws.proofs.LineReading.{reads_lined}
use Rattle.read_laws.proofs.MarkReading.{reads_set, reads_sets}
use Rattle.read_laws.proofs.MemberOrder.{Own, own, key, grouped, Group, Apart, two_groups, lists_differ, map_neighbours, map_differ}
use Rattle.read_laws.proofs.Readings.{Reads, anything, weaker, done, when, either, next}

abbrev pub own_method : Method → Own
own_method m = (m.name, m.flags)

-- ---- the frame of a body

reads_frame : (p : Program) (e : Listed) (item : CodeItem) → Reads (λ u. (takes_words p e.flags (proto_of p e.number) item.ins && leb item.ins item.registers) ≡ true) (frame_at p e item)
unfolding frame_at
reads_frame p e item = weaker (frame_at p e item) (when _ (done tt)) (λ y q. q.0)

-- ---- methods by their entries

-- methods that have these numbers and_both flags, and_both whose annotations fit; and_both their code does, where these are bytes
pub record MethodsAre (bytes : List ℕ) (p : Program) (xs : List Own) (methods : List Method) : Type 0 where
  pub own : map own_method methods ≡ xs
  pub marks : list_all (λ m. marks_fit p m.marks) methods ≡ true
  pub parameters : list_all (λ m. list_all (marks_fit p) m.parameter_marks) methods ≡ true
  pub codes : AreBytes bytes → list_all (λ m. code_fits p m m.body) methods ≡ true

record IsMethod (bytes : List ℕ) (p : Program) (e : Listed) (m : Method) : Type 0 where
  own : own_method m ≡ own e
  marks : marks_fit p m.marks ≡ true
  parameters : list_all (marks_fit p) m.parameter_marks ≡ true
  codes : AreBytes bytes → code_fits p m m.body ≡ true

agreed_true : (a b : Bool) → a ≡ true → agree a b ≡ true → b ≡ true
agreed_true true b h g = g
agreed_true false b h g = absurd cc

agreed_false : (a b : Bool) → a ≡ false → agree a b ≡ true → not b ≡ true
agreed_false false b h g = g
agreed_false true b h g = absurd cc

no_lines : lines_fit 0 [] ≡ true
unfolding lines_fit
no_lines = refl

framed : (p : Program) (e : Listed) (b : Body) (lines : List ℕ) (registers ins : ℕ) → HasFrame registers ins b → (takes_words p e.flags (proto_of p e.number) ins && leb ins registers) ≡ true
    → frame_fits p (method_with e (Some b) lines) b ≡ true
unfolding frame_fits
framed p e b lines registers ins f h = rw (f.1, f.0) h

reads_coded : (bytes : List ℕ) (p : Program) (e : Listed) (left : Budget) → not (lacks_code e.flags) ≡ true → Reads (λ r. IsMethod bytes p e r.0) (coded_at bytes p e left)
unfolding coded_at
reads_coded bytes p e left has = weaker (coded_at bytes p e left)
    (next (reads_item bytes e.code) (λ item few. next (reads_frame p e item) (λ frame _. next (reads_body bytes p e.number item left.items few) (λ b _.
    next (reads_lined bytes item.debug b.1 _) (λ lines _. next (anything (cells_with b.0 left.cells)) (λ cells _.
    done (method_with e (Some b.0) lines.0, record { items = lines.1; cells = cells })))))))
    (λ y q. let frame = q.2 in let b = frame.2 in let lines = b.2 in let cells = lines.2 in
    subst (λ (r : Method × Budget). IsMethod bytes p e r.0) (sym cells.2) (record {
      own = refl;
      marks = no_marks p;
      parameters = refl;
      codes = λ are. and_both _ _ has (and_both _ _ (framed p e b.0.0 lines.0.0 q.0.registers q.0.ins b.1.frame frame.1) (and_both _ _ (b.1.fit are)
          (subst (λ (n : ℕ). lines_fit n lines.0.0 ≡ true) (sym b.1.as_many) lines.1)));
    }))

reads_one : (bytes : List ℕ) (p : Program) (e : Listed) (left : Budget) → agree (e.code == 0) (lacks_code e.flags) ≡ true → Reads (λ r. IsMethod bytes p e r.0) (method_at bytes p e left)
reads_one bytes p e left h = either
    (λ z. weaker (Ok (method_with e None [], left)) (done (method_with e None [], left)) (λ y i. subst (λ (r : Method × Budget). IsMethod bytes p e r.0) (sym i)
    (record { own = refl; marks = no_marks p; parameters = refl; codes = λ are. and_both _ _ (agreed_true (e.code == 0) (lacks_code e.flags) z h) no_lines })))
    (λ z. reads_coded bytes p e left (agreed_false (e.code == 0) (lacks_code e.flags) z h))

reads_each : (bytes : List ℕ) (p : Program) (es : List Listed) (left : Budget) → list_all (λ e. agree (e.code == 0) (lacks_code e.flags)) es ≡ true
    → Reads (λ r. MethodsAre bytes p (map own es) r.0) (for_each (method_at bytes p) es left)
reads_each bytes p [] left h = weaker (for_each (method_at bytes p) [] left) (done ([], left))
    (λ y i. subst (λ (r : List Method × Budget). MethodsAre bytes p [] r.0) (sym i) (record { own = refl; marks = refl; parameters = refl; codes = λ are. refl }))
reads_each bytes p (e ∷ es) left h = let h1 = and_parts _ _ h in weaker (for_each (method_at bytes p) (e ∷ es) left)
    (next (reads_one bytes p e left h1.0) (λ y _. next (reads_each bytes p es y.1 h1.1) (λ ys _. done (y.0 ∷ ys.0, ys.1))))
    (λ y q. let rest = q.2 in
    subst (λ (r : List Method × Budget). MethodsAre bytes p (map own (e ∷ es)) r.0) (sym rest.2) (record {
      own = ap (λ x. x ∷ map own_method rest.0.0) q.1.own ∙ ap (λ xs. own e ∷ xs) rest.1.own;
      marks = and_both _ _ q.1.marks rest.1.marks;
      parameters = and_both _ _ q.1.parameters rest.1.parameters;
      codes = λ are. and_both _ _ (q.1.codes are) (rest.1.codes are);
    }))

pub reads_methods_of : {class : ℕ} (bytes : List ℕ) (p : Program) (listed : Members) (left : Budget) → AreListed p class listed
    → Reads (λ r. MethodsAre bytes p (map own (listed.directs ++ listed.virtuals)) r.0) (methods_of bytes p listed left)
unfolding methods_of
reads_methods_of {class = class} bytes p listed left a =
    let coded : (direct : Bool) (earlier es : List Listed) → list_all (method_suits p class direct earlier) es ≡ true → list_all (λ e. agree (e.code == 0) (lacks_code e.flags)) es ≡ true
    = λ direct earlier es h. all_more (method_suits p class direct earlier) (λ e. agree (e.code == 0) (lacks_code e.flags)) (λ e t. (and_parts _ _ (and_parts _ _ (and_parts _ _ t).1).1).0) es h in
    reads_each bytes p (listed.directs ++ listed.virtuals) left
    (list_all-append (λ e. agree (e.code == 0) (lacks_code e.flags)) listed.directs listed.virtuals ∙ and_both _ _ (coded true [] listed.directs a.directs.suit) (coded false listed.directs listed.virtuals a.virtuals.suit))

-- ---- their annotations

abbrev State : Type 0
State = List Method × (ℕ × ℕ)

pub reads_mark_method : (bytes : List ℕ) (p : Program) (class : ℕ) (listed : List Listed) (at : ℕ) (xs : List Own) (i : ℕ) (s : State) → MethodsAre bytes p xs s.0
    → Reads (λ r. MethodsAre bytes p xs r.0) (mark_method bytes p class listed at i s)
unfolding mark_method frame_fits
reads_mark_method bytes p class listed at xs i s h = weaker (mark_method bytes p class listed at i s)
    (next (anything (named_at bytes class (sizes_in p).methods listed at i s.1.0)) (λ named _. next (reads_set bytes p named.1.1 s.1.1) (λ marks _.
    done (change_at (with_own_marks marks.0) named.0 s.0, (named.1.0, marks.1)))))
    (λ y q. let marks = q.2 in subst (λ (r : State). MethodsAre bytes p xs r.0) (sym marks.2) (record {
      own = change_keeps own_method (with_own_marks marks.0.0) (λ x. refl) q.0.0 s.0 ∙ h.own;
      marks = change_all (λ m. marks_fit p m.marks) (with_own_marks marks.0.0) q.0.0 s.0 (λ x e t. marks.1) h.marks;
      parameters = change_all (λ m. list_all (marks_fit p) m.parameter_marks) (with_own_marks marks.0.0) q.0.0 s.0 (λ x e t. t) h.parameters;
      codes = λ are. change_all (λ m. code_fits p m m.body) (with_own_marks marks.0.0) q.0.0 s.0 (λ x e t. same_code p marks.0.0 x x.body t) (h.codes are);
    }))
  where
    same_code : (p : Program) (marks : List Mark) (m : Method) (b : Option Body) → code_fits p m b ≡ true → code_fits p (with_own_marks marks m) b ≡ true
    same_code p marks m None h = h
    same_code p marks m (Some b) h = h

pub reads_mark_parameters : (bytes : List ℕ) (p : Program) (class : ℕ) (listed : List Listed) (at : ℕ) (xs : List Own) (i : ℕ) (s : State) → MethodsAre bytes p xs s.0
    → Reads (λ r. MethodsAre bytes p xs r.0) (mark_parameters bytes p class listed at i s)
unfolding mark_parameters frame_fits
reads_mark_parameters bytes p class listed at xs i s h = weaker (mark_parameters bytes p class listed at i s)
    (next (anything (named_at bytes class (sizes_in p).methods listed at i s.1.0)) (λ named _. next (reads_sets bytes p named.1.1 s.1.1) (λ marks _.
    done (change_at (with_parameter_marks marks.0) named.0 s.0, (named.1.0, marks.1)))))
    (λ y q. let marks = q.2 in subst (λ (r : State). MethodsAre bytes p xs r.0) (sym marks.2) (record {
      own = change_keeps own_method (with_parameter_marks marks.0.0) (λ x. refl) q.0.0 s.0 ∙ h.own;
      marks = change_all (λ m. marks_fit p m.marks) (with_parameter_marks marks.0.0) q.0.0 s.0 (λ x e t. t) h.marks;
      parameters = change_all (λ m. list_all (marks_fit p) m.parameter_marks) (with_parameter_marks marks.0.0) q.0.0 s.0 (λ x e t. marks.1) h.parameters;
      codes = λ are. change_all (λ m. code_fits p m m.body) (with_parameter_marks marks.0.0) q.0.0 s.0 (λ x e t. same_code p marks.0.0 x x.body t) (h.codes are);
    }))
  where
    same_code : (p : Program) (marks : List (List Mark)) (m : Method) (b : Option Body) → code_fits p m b ≡ true → code_fits p (with_parameter_marks marks m) b ≡ true
    same_code p marks m None h = h
    same_code p marks m (Some b) h = h

-- ---- the rule of methods

abbrev of_class : Program → ℕ → Own → Bool
of_class p class x = is_class_number (class_of_method (slice_get p.methods x.0)) class

abbrev direct_own : Program → Own → Bool
direct_own p x = (is_static x.1 || is_private x.1) || first_unit (name_of_method p (slice_get p.methods x.0)) == 60

last_of_four : (a b c d : Bool) → (a && (b && (c && d))) ≡ true → d ≡ true
last_of_four a b c d h = (and_parts c d (and_parts b (c && d) (and_parts a (b && (c && d)) h).1).1).1

each_fits : (p : Program) (class : ℕ) (methods : List Method) → list_all (λ m. of_class p class (own_method m)) methods ≡ true → list_all (λ m. marks_fit p m.marks) methods ≡ true
    → list_all (λ m. list_all (marks_fit p) m.parameter_marks) methods ≡ true → list_all (λ m. code_fits p m m.body) methods ≡ true
    → list_all (method_fits p class) methods ≡ true
unfolding method_fits
each_fits p class [] h1 h2 h3 h4 = refl
each_fits p class (m ∷ ms) h1 h2 h3 h4 =
    let a = and_parts _ _ h1 in let b = and_parts _ _ h2 in let c = and_parts _ _ h3 in let d = and_parts _ _ h4 in
    and_both _ _ (and_both _ _ (and_both _ _ a.0 d.0) (and_both _ _ b.0 c.0)) (each_fits p class ms a.1 b.1 c.1 d.1)

pub methods_that_are : {class : ℕ} (bytes : List ℕ) (p : Program) (m : Members) (methods : List Method) → AreListed p class m → MethodsAre bytes p (map own (m.directs ++ m.virtuals)) methods
    → AreBytes bytes → methods_fit p class methods ≡ true
unfolding methods_fit is_direct
methods_that_are {class = class} bytes p m methods a f are =
    let mine : (direct : Bool) (earlier es : List Listed) → list_all (method_suits p class direct earlier) es ≡ true → list_all (λ e. of_class p class (own e)) es ≡ true
    = λ direct earlier es h. all_more (method_suits p class direct earlier) (λ e. of_class p class (own e)) (λ e t. (and_parts _ _ t).0) es h in
    let grouping : (direct : Bool) (earlier es : List Listed) → list_all (method_suits p class direct earlier) es ≡ true → Group (direct_own p) direct es
    = λ direct earlier es h. all_more (method_suits p class direct earlier) (λ e. agree (direct_own p (own e)) direct) (λ e t. (and_parts _ _ (and_parts _ _ t).1).0) es h in
    let apart : Apart m.directs m.virtuals
    = all_more (method_suits p class false m.directs) (λ e. is_none (place_in e.number m.directs))
    (λ e t. last_of_four (of_class p class (own e)) (agree (is_direct_entry p e) false) (agree (e.code == 0) (lacks_code e.flags)) (is_none (place_in e.number m.directs)) t) m.virtuals a.virtuals.suit in
    let all_mine : list_all (of_class p class) (map own (m.directs ++ m.virtuals)) ≡ true
    = list_all-map (of_class p class) own (m.directs ++ m.virtuals) ∙ list_all-append (λ e. of_class p class (own e)) m.directs m.virtuals
    ∙ and_both _ _ (mine true [] m.directs a.directs.suit) (mine false m.directs m.virtuals a.virtuals.suit) in
    let in_order : list_all (grouped (direct_own p)) (neighbours (map own (m.directs ++ m.virtuals))) ≡ true
    = two_groups (direct_own p) 0 0 m.directs m.virtuals (grouping true [] m.directs a.directs.suit) (grouping false m.directs m.virtuals a.virtuals.suit) a.directs.ascend.rises a.virtuals.ascend in
    let own_mine : list_all (λ g. of_class p class (own_method g)) methods ≡ true
    = sym (list_all-map (of_class p class) own_method methods) ∙ ap (list_all (of_class p class)) f.own ∙ all_mine in
    let order : list_all (methods_in_order p) (neighbours methods) ≡ true
    = map_neighbours own_method (grouped (direct_own p)) methods ∙ ap (λ ys. list_all (grouped (direct_own p)) (neighbours ys)) f.own ∙ in_order in
    let differ : all_differ own_method_key methods ≡ true
    = map_differ own_method key [] methods ∙ ap (λ ys. differ_from key [] ys) f.own ∙ lists_differ m.directs m.virtuals a.directs.ascend a.virtuals.ascend apart in
    and_both _ _ (each_fits p class methods own_mine f.marks f.parameters (f.codes are)) (and_both _ _ order differ)
