-- A well-formed program with nops for what does nothing is well-formed, and has other bodies in the same methods.
use Rattle.std.proofs.Common.{◌≡◌, ◌↔◌, ℕ, zero, suc, ◌+◌, ◌<◌, ◌≤◌, Bool, true, false, true≢false, List, [], ◌∷◌, length, Option, Some, None, refl, sym, ap, ◌∙◌, subst, arith}
use Rattle.std.specs.Prelude.{◌&&◌, not, is_some, slice_get, slice_index_or, Contains}
use Rattle.std.specs.List.{list_all}
use Rattle.std.proofs.lemmas.Bool.{and_parts}
use Rattle.lemmas.proofs.Lists.{got_short, all_at}
use Rattle.insn_set.specs.declared.form.Insn.{Insn}
use Rattle.insn_set.specs.declared.form.Insn.TheVariants as insn
use Rattle.program_model.specs.Neighbours.{neighbours}
use Rattle.program_model.specs.Distinct.{own_method_key, all_differ}
use Rattle.program_model.specs.BodyRules.{may_follow, body_fits}
use Rattle.program_model.specs.Items.{body_items}
use Rattle.program_model.specs.LineRules.{lines_fit}
use Rattle.program_model.specs.ValueRules.{marks_fit}
use Rattle.program_model.specs.MemberRules.{is_class_number, class_of_method, lacks_code, frame_fits, code_fits, method_fits, methods_in_order, methods_fit, fields_fit, types_of_class_fit, source_fits, class_fits}
use Rattle.program_model.specs.ProgramRules.{is_well_formed}
use Rattle.program_model.proofs.Formed.{formed}
use Rattle.program_model.specs.declared.body.Body.{Body}
use Rattle.program_model.specs.declared.pass.Changed.{Changed}
use Rattle.program_model.specs.declared.program.Method.{Method}
use Rattle.program_model.specs.declared.program.MethodAt.{MethodAt}
use Rattle.program_model.specs.declared.program.Class.{Class}
use Rattle.program_model.specs.declared.program.Program.{Program}
use Rattle.dalvik_defs.specs.Naming.{named_class, named_method}
use Rattle.dalvik_defs.specs.Silence.{key_in}
use Rattle.dalvik_defs.specs.declared.names.MethodKey.{MethodKey}
use Rattle.dom_frame.specs.declared.frames.Frame.{Frame}
use Rattle.facts.specs.Lent.{frame_at}
use Rattle.program_laws.specs.Others.{Pairwise}
use Rattle.program_laws.specs.Numbered.{OtherNumberedMethod, OtherNumberedClass, OtherNumberedBodies}
use Rattle.thin_laws.specs.Recoded.{Recodes, RecodedMethod, Untouched, Recoded, RecodedClass, RecodedProgram}
use Rattle.thin_laws.proofs.Formed.{recoded_formed}
use Rattle.rewrite_pass.specs.declared.edit.Edit.{Edit}
use Rattle.rewrite_pass.specs.Plans.{body_edited, code_edited, method_by, each_by, class_by, program_by, word, HasEdits, HasPlan, IsPlan, IsRewrittenBy}
use Rattle.quiet_code.specs.Idle.{takes_result, DoesNothing, IsIdle}
use Rattle.quiet_code.specs.Quieted.{Frames, AreNops, Nops}
use Rattle.calls_kept.specs.Nopped.{body_nopped, QuietedCode, NoCode, Same, Quieted}
use Rattle.calls_kept.proofs.QuietBodies.{body_written}
use Rattle.calls_kept.proofs.QuietFormed.{Passes, AllPass, long_kept, body_kept, cells_fall}

-- ---- what does nothing is passed

behind_call : (kind : _) (method : ℕ) (args : List ℕ) (j : Insn) → takes_result (Some j) ≡ false → may_follow (insn.Invoke kind method args) j ≡ true → may_follow insn.Nop j ≡ true
behind_call kind method args (insn.MoveResult slot to) r h = absurd (true≢false r)
behind_call kind method args (insn.MoveException to) r h = absurd (true≢false (sym h))
behind_call kind method args j r h = refl

behind_division : (op : _) (to x y : ℕ) (j : Insn) → may_follow (insn.Binary op to x y) j ≡ true → may_follow insn.Nop j ≡ true
behind_division op to x y (insn.MoveResult slot r) h = absurd (true≢false (sym h))
behind_division op to x y (insn.MoveException r) h = absurd (true≢false (sym h))
behind_division op to x y j h = refl

module _ (p : Program) (quiet : List Bool) where
  nothing_passes : (o : Option Frame) (b : Body) (n : ℕ) (i : Insn) → DoesNothing p quiet o b n i → Passes i (slice_get b.insns (suc n))
  nothing_passes o b n (insn.Invoke kind method args) d =
      let next : n + 1 ≡ suc n = omega arith in
      let untaken : takes_result (slice_get b.insns (suc n)) ≡ false = ap (λ k. takes_result (slice_get b.insns k)) (sym next) ∙ d.0 in
      record { onward = refl; follows = λ j e h. behind_call kind method args j (ap takes_result (sym e) ∙ untaken) h }
  nothing_passes o b n (insn.Binary op to x y) d = record { onward = refl; follows = λ j e h. behind_division op to x y j h }
  nothing_passes o b n i d = absurd d

  module _ (frames : Frames) (m : Method) (b : Body) (idle : ℕ → Bool) (are : (n : ℕ) (i : Insn) → slice_get b.insns n ≡ Some i → (idle n ≡ true) ↔ IsIdle p quiet (frame_at frames m.name n) b n i) where
    all_pass : AllPass idle 0 b.insns
    all_pass n i at on =
        let e : 0 + n ≡ n = omega arith in
        nothing_passes (frame_at frames m.name n) b n i ((are n i at).0 (ap idle (sym e) ∙ on)).nothing

    frame_kept : frame_fits p m b ≡ true → frame_fits p m (body_nopped idle b) ≡ true
    unfolding frame_fits
    frame_kept e = e

    pub recodes : code_fits p m (Some b) ≡ true → Recodes p m b (body_nopped idle b) m.lines
    recodes h =
        let all = and_parts (not (lacks_code m.flags)) (frame_fits p m b && (body_fits p b && lines_fit (length b.insns) m.lines)) h in
        let more = and_parts (frame_fits p m b) (body_fits p b && lines_fit (length b.insns) m.lines) all.1 in
        let code = and_parts (body_fits p b) (lines_fit (length b.insns) m.lines) more.1 in
        record {
          frame = frame_kept more.0;
          body = body_kept idle p b all_pass code.0;
          lined = ap (λ n. lines_fit n m.lines) (long_kept idle b.insns 0) ∙ code.1;
          cells = cells_fall idle b;
          items = same_room (body_items (Some (body_nopped idle b))) (body_items (Some b)) refl;
        }
      where
        same_room : (x y : ℕ) → x ≡ y → x ≤ y
        same_room x y e = omega (arith, e)

-- ---- lists

some_is : {A : Type 0} (x y : A) → Some x ≡ Some y → x ≡ y
some_is x y e = cc

contains_at : {A : Type 0} (xs : List A) (n : ℕ) (x : A) → slice_get xs n ≡ Some x → Contains xs x
contains_at [] n x e = absurd (cc)
contains_at (y ∷ xs) zero x e = (0, omega arith, some_is y x e)
contains_at (y ∷ xs) (suc n) x e = let h : Contains xs x = contains_at xs n x e in (suc h.0, omega (arith, h.1), h.2)

pairs_by : {A E : Type 0} (by : List E → A → A) (R : A → A → Type 0) (xs : List A) (plan : List (List E)) → length plan ≡ length xs
    → ((k : ℕ) (x : A) → slice_get xs k ≡ Some x → R x (by (slice_index_or plan k []) x)) → Pairwise R xs (each_by by plan xs)
pairs_by by R [] [] l h = tt
pairs_by by R [] (es ∷ plan) l h = absurd (omega (arith, l))
pairs_by by R (x ∷ xs) [] l h = absurd (omega (arith, l))
pairs_by by R (x ∷ xs) (es ∷ plan) l h = (h 0 x refl, pairs_by by R xs plan (omega (arith, l)) (λ k y e. h (suc k) y e))

-- ---- programs

code_coded : (es : List Edit) (o : Option Body) → is_some (code_edited es o) ≡ is_some o
code_coded es None = refl
code_coded es (Some b) = refl

module _ (p : Program) (quiet : List Bool) (frames : Frames) (admitted : List Bool) where
  abbrev W : MethodAt → Method → Body → List Edit → Type 0
  W = Nops p quiet frames

  -- the code of a method that is written over
  written : (m : Method) (b : Body) (es : List Edit) (w : AreNops p quiet frames m b es) → body_edited es b ≡ body_nopped w.idle b
  written m b es w = ap (λ l. body_edited l b) w.edits ∙ body_written w.idle b

  -- ---- other bodies

  same_code : (k : MethodKey) (o : Option Body) → QuietedCode p quiet frames k o o
  same_code k None = NoCode
  same_code k (Some b) = Same b

  module _ (class : ℕ) (c : Class) (is_class : slice_get p.classes class ≡ Some c) where
    module _ (n : ℕ) (m : Method) (has : slice_get c.methods n ≡ Some m) (at : MethodAt) where
      abbrev key : MethodKey
      key = key_in (named_class p c) (named_method p m)

      by_code : (adm : Bool) (o : Option Body) → m.body ≡ o → (es : List Edit) → HasEdits W adm at m o es → QuietedCode p quiet frames key o (code_edited es o)
      by_code adm None e es h = NoCode
      by_code true (Some b) e es w = subst (λ d. QuietedCode p quiet frames key (Some b) (Some d)) (sym (written m b es w)) (Quieted class c m b is_class (contains_at c.methods n m has) e refl w.idle w.are_idle w.live w.live_in)
      by_code false (Some b) e es h = subst (λ es. QuietedCode p quiet frames key (Some b) (code_edited es (Some b))) (sym h) (Same b)

      method_other : (adm : Bool) (es : List Edit) → HasEdits W adm at m m.body es → OtherNumberedMethod (QuietedCode p quiet frames) p c m (method_by es m)
      method_other adm [] h = record { same = refl; coded = refl; related = same_code key m.body }
      method_other adm (e ∷ es) h = record { same = refl; coded = code_coded (e ∷ es) m.body; related = by_code adm m.body refl (e ∷ es) h }

    class_other : (ps : List (List Edit)) → HasPlan W admitted (word class) c.methods ps → OtherNumberedClass (QuietedCode p quiet frames) p c (class_by ps c)
    class_other ps h = record {
      same = refl;
      methods = pairs_by method_by (OtherNumberedMethod (QuietedCode p quiet frames) p c) c.methods ps h.long
          (λ k m e. method_other k m e (record { class = word class; place = word k }) (slice_index_or admitted m.name false) (slice_index_or ps k []) (h.each k m (got_short c.methods k m e) e));
    }

  planned_others : (plan : List (List (List Edit))) → IsPlan W admitted p.classes plan → OtherNumberedBodies (QuietedCode p quiet frames) p (program_by plan p)
  planned_others plan h = record {
    same = refl;
    classes = pairs_by class_by (OtherNumberedClass (QuietedCode p quiet frames) p) p.classes plan h.long
        (λ k c e. class_other k c e (slice_index_or plan k []) (h.each k c (got_short p.classes k c e) e));
  }

  pub quieted_others : (c : Changed) → IsRewrittenBy W admitted p c → OtherNumberedBodies (QuietedCode p quiet frames) p c.program
  quieted_others c r = subst (OtherNumberedBodies (QuietedCode p quiet frames) p) (sym r.written.program) (planned_others r.plan r.asked)

  -- ---- well-formed

  code_of : (class : ℕ) (m : Method) (b : Body) → m.body ≡ Some b → method_fits p class m ≡ true → code_fits p m (Some b) ≡ true
  unfolding method_fits
  code_of class m b e h =
      let all = and_parts (is_class_number (class_of_method (slice_get p.methods m.name)) class && code_fits p m m.body) (marks_fit p m.marks && list_all (marks_fit p) m.parameter_marks) h in
      subst (λ o. code_fits p m o ≡ true) e (and_parts (is_class_number (class_of_method (slice_get p.methods m.name)) class) (code_fits p m m.body) all.0).1

  method_recoded : (class : ℕ) (at : MethodAt) (m : Method) (adm : Bool) (es : List Edit) → method_fits p class m ≡ true → HasEdits W adm at m m.body es → RecodedMethod p m (method_by es m)
  method_recoded class at m adm [] fit h = Untouched m
  method_recoded class at m adm (e ∷ es) fit h = by adm m.body refl h
    where
      still : (o : Option Body) → o ≡ m.body → RecodedMethod p m (record m { body = o })
      still o i = subst (λ x. RecodedMethod p m (record m { body = x })) (sym i) (Untouched m)

      by : (adm : Bool) (o : Option Body) → m.body ≡ o → HasEdits W adm at m o (e ∷ es) → RecodedMethod p m (record m { body = code_edited (e ∷ es) o })
      by adm None i k = still None (sym i)
      by true (Some b) i w = subst (λ d. RecodedMethod p m (record m { body = Some d })) (sym (written m b (e ∷ es) w)) (Recoded m b (body_nopped w.idle b) m.lines i (recodes p quiet frames m b w.idle w.are_idle (code_of class m b i fit)))
      by false (Some b) i k = let z : e ∷ es ≡ [] = k in absurd (cc)

  class_methods : (c : Class) → class_fits p c ≡ true → list_all (method_fits p c.name) c.methods ≡ true
  unfolding class_fits methods_fit
  class_methods c h =
      let all = and_parts (types_of_class_fit p c && (source_fits p c.source && marks_fit p c.marks)) (fields_fit p c.name c.fields && methods_fit p c.name c.methods) h in
      let members = and_parts (fields_fit p c.name c.fields) (methods_fit p c.name c.methods) all.1 in
      (and_parts (list_all (method_fits p c.name) c.methods) (list_all (methods_in_order p) (neighbours c.methods) && all_differ own_method_key c.methods) members.1).0

  class_recoded : (class : ℕ) (c : Class) (ps : List (List Edit)) → class_fits p c ≡ true → HasPlan W admitted class c.methods ps → RecodedClass p c (class_by ps c)
  class_recoded class c ps fit h = record {
    same = refl;
    methods = pairs_by method_by (RecodedMethod p) c.methods ps h.long
        (λ k m e. method_recoded c.name (record { class = class; place = word k }) m (slice_index_or admitted m.name false) (slice_index_or ps k [])
        (all_at (method_fits p c.name) c.methods k m (class_methods c fit) e) (h.each k m (got_short c.methods k m e) e));
  }

  pub quieted_formed : (c : Changed) → is_well_formed p ≡ true → IsRewrittenBy W admitted p c → is_well_formed c.program ≡ true
  quieted_formed c fits r = subst (λ q. is_well_formed q ≡ true) (sym r.written.program) (recoded_formed p (program_by r.plan p) (record {
    same = refl;
    classes = pairs_by class_by (RecodedClass p) p.classes r.plan r.asked.long
        (λ k c e. class_recoded (word k) c (slice_index_or r.plan k []) (all_at (class_fits p) p.classes k c (formed p fits).classes e) (r.asked.each k c (got_short p.classes k c e) e));
  }) fits)
