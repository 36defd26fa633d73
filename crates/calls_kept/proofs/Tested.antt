-- Each new body has a typing by name, since the pass tested it: so what is left of a typed program is typed.
use Rattle.std.proofs.Common.{◌≡◌, ◌⊎◌, inl, inr, ℕ, zero, suc, ◌<◌, ◌≤◌, Bool, true, List, [], ◌∷◌, length, Option, Some, None, refl, sym, ap, ap₂, ◌∙◌, subst}
use Rattle.std.specs.Prelude.{is_some, slice_get, option_and_then, Contains}
use Rattle.std.specs.Option.{option_map}
use Rattle.lemmas.proofs.Options.{none_some, some_same}
use Rattle.insn_set.specs.declared.form.Insn.{Insn}
use Rattle.insn_set.specs.declared.form.Insn.TheVariants as insn
use Rattle.program_model.specs.Lookups.{method_at}
use Rattle.program_model.specs.MemberRules.{frame_fits}
use Rattle.program_model.specs.OperandRules.{numbers_fit}
use Rattle.program_model.specs.ProgramRules.{is_well_formed}
use Rattle.program_model.specs.Texts.{letter_of, type_text}
use Rattle.program_model.specs.declared.body.Body.{Body}
use Rattle.program_model.specs.declared.pass.Origin.{Origin}
use Rattle.program_model.specs.declared.program.Class.{Class}
use Rattle.program_model.specs.declared.program.Method.{Method}
use Rattle.program_model.specs.declared.program.MethodAt.{MethodAt}
use Rattle.program_model.specs.declared.program.Program.{Program}
use Rattle.class_defs.proofs.WellFormed.{sound}
use Rattle.hierarchy.specs.Shapes.{IsOf, IsResolved}
use Rattle.hierarchy.specs.declared.build.Hierarchy.{Hierarchy}
use Rattle.facts.specs.declared.facts.Facts.{Facts}
use Rattle.dalvik_defs.specs.Find.{defined_method}
use Rattle.dalvik_defs.specs.Naming.{body_of, named, named_class, named_method}
use Rattle.dalvik_defs.specs.Silence.{key_in}
use Rattle.dalvik_defs.specs.Under.{class_named}
use Rattle.dalvik_defs.specs.declared.names.MethodKey.{MethodKey}
use Rattle.dalvik_defs.specs.declared.program.NamedBody.{NamedBody}
use Rattle.dalvik_defs.specs.declared.program.NamedClass.{NamedClass}
use Rattle.dalvik_defs.specs.declared.program.NamedMethod.{NamedMethod}
use Rattle.pass_defs.specs.Typed.{IsTyped}
use Rattle.pass_defs.specs.Typed as by_name
use Rattle.verify.specs.declared.typed.Verifier.{Verifier}
use Rattle.verify.specs.declared.setting.Setting.{Setting}
use Rattle.verify.specs.Entry.{begun}
use Rattle.verify.specs.Methods.{constructs, receiver_of, IsSettingOf, HasTyping, IsFor}
use Rattle.verify.specs.Names.{parameters_of}
use Rattle.verify.specs.Supers.{Finds}
use Rattle.verify.specs.Typings.{Table, IsTyping}
use Rattle.type_bridge.proofs.Bodies.{IsCode, code}
use Rattle.type_bridge.proofs.Judged.{table, typing_named}
use Rattle.type_bridge.proofs.Grounds.{IsSet}
use Rattle.type_bridge.proofs.Programs.{program, ground}
use Rattle.program_laws.specs.Numbered.{OtherNumberedMethod, OtherNumberedBodies}
use Rattle.program_laws.proofs.Named.{others_named}
use Rattle.program_laws.proofs.Typed.{others_typed}
use Rattle.run_laws.specs.Regular.{IsRegular}
use Rattle.run_laws.proofs.Here.{into_map}
use Rattle.removal_bridge.proofs.TypedFormed.{regular_program}
use Rattle.splice.specs.declared.callee.Callee.{Callee}
use Rattle.splice.specs.declared.spliced.Spliced.{Spliced}
use Rattle.inline_calls.specs.declared.site.Caller.{Caller}
use Rattle.inline_calls.specs.declared.caller.Inliner.{Inliner}
use Rattle.inline_calls.specs.declared.editing.Edit.{Edit}
use Rattle.inline_calls.specs.declared.done.Done.{Done}
use Rattle.inline_calls.specs.Accepting.{Weighs, Agreed, Tries, Unsuited, Suited, HasTried, Untried, Tried}
use Rattle.inline_calls.specs.Asked.{Row}
use Rattle.inline_calls.specs.Edited.{method_by, each_by, class_by, program_by}
use Rattle.inline_calls.specs.Plans.{nothing_done, edit_of, IsCallerOf, LooksAt, Bare, Barred, Looked, IsInlined}
use Rattle.inline_calls.specs.Rooms.{HasRoom, spliced_by, new_of}
use Rattle.calls_kept.proofs.InlinedNamed.{contains_at}
use Rattle.calls_kept.proofs.Looked.{all_classes}

-- ---- what was tested of the last body

weighs_room : (i : Inliner) (c : Caller) (cells n : ℕ) (y : Callee) (chosen : List (Option Callee)) (rows : List Row) (s : Spliced) → Weighs i c cells n y chosen rows (Some s) → HasRoom i c cells (spliced_by i c chosen).body
weighs_room i c cells n y chosen _ _ (Agreed row room ask agreed) = room

tried_room : (i : Inliner) (c : Caller) (cells n : ℕ) (rows : List Row) (chosen : List (Option Callee)) → HasTried i c cells n rows chosen → (chosen ≡ []) ⊎ HasRoom i c cells (spliced_by i c chosen).body
tried_room i c cells _ _ _ Untried = inl refl
tried_room i c cells _ _ _ (Tried n rows more old new before tries) = by new more tries (tried_room i c cells n rows old before)
  where
    by : (new : List (Option Callee)) (more : List Row) → Tries i c cells n old more new → (old ≡ []) ⊎ HasRoom i c cells (spliced_by i c old).body → (new ≡ []) ⊎ HasRoom i c cells (spliced_by i c new).body
    by _ _ (Unsuited none) h = h
    by _ _ (Suited y new rows None candidate with_it weighs) h = h
    by _ _ (Suited y new rows (Some s) candidate with_it weighs) h = inr (weighs_room i c cells n y new rows s weighs)

-- ---- a body in the place of another

get_by : {A E : Type 0} (by : E → A → A) (es : List E) (xs : List A) (k : ℕ) (x : A) (e : E) → slice_get xs k ≡ Some x → slice_get es k ≡ Some e → slice_get (each_by by es xs) k ≡ Some (by e x)
get_by by es [] k x e g h = none_some x g
get_by by [] (y ∷ xs) k x e g h = none_some e h
get_by by (f ∷ es) (y ∷ xs) zero x e g h = ap₂ (λ u v. Some (by u v)) (some_same f e h) (some_same y x g)
get_by by (f ∷ es) (y ∷ xs) (suc k) x e g h = get_by by es xs k x e g h

module _ (p : Program) (cs : List Class) where
  numbers_same : (x : Insn) → numbers_fit x (record p { classes = cs }) ≡ numbers_fit x p
  unfolding numbers_fit
  numbers_same insn.Nop = refl
  numbers_same x = refl

  frame_same : (m : Method) (b d : Body) (lines : List ℕ) → frame_fits (record p { classes = cs }) (record m { body = Some b; lines = lines }) d ≡ frame_fits p m d
  unfolding frame_fits letter_of type_text
  frame_same m b d lines = refl

  code_same : (m : Method) (d : Body) (lines : List ℕ) → IsCode (record p { classes = cs }) (record m { body = Some d; lines = lines }) d → IsCode p m d
  code_same m d lines h = record {
    some = h.some;
    numbers = λ n i e. sym (numbers_same i) ∙ h.numbers n i e;
    targets = h.targets;
    ends = h.ends;
    regions = h.regions;
    frame = sym (frame_same m d d lines) ∙ h.frame;
    few = h.few;
  }

-- ---- a typing by name

abbrev pub Named : Program → Class → Method → Body → Type 0
Named p c m d = (t : by_name.Table) × by_name.IsTyping (named p) (named_class p c) (named_method p m) (body_of p d) t

-- the code of a method, the same or with a typing by name
pub data TypedSo (p : Program) (k : MethodKey) : Option Body → Option Body → Type 0 where
  NoCode : TypedSo p k None None
  Same : (b : Body) → TypedSo p k (Some b) (Some b)
  New : (c : Class) (m : Method) (b d : Body) → Contains p.classes c → Contains c.methods m → k ≡ key_in (named_class p c) (named_method p m) → Named p c m d → TypedSo p k (Some b) (Some d)

pub data TypedNamed (p : Program) (k : MethodKey) : Option NamedBody → Option NamedBody → Type 0 where
  NoneNamed : TypedNamed p k None None
  SameNamed : (b : NamedBody) → TypedNamed p k (Some b) (Some b)
  NewNamed : (c : Class) (m : Method) (b : NamedBody) (d : Body) → Contains p.classes c → Contains c.methods m → k ≡ key_in (named_class p c) (named_method p m) → Named p c m d → TypedNamed p k (Some b) (Some (body_of p d))

module _ (p : Program) (h : Hierarchy) (w : is_well_formed p ≡ true) (resolved : IsResolved p h) where
  same_code : (k : MethodKey) (o : Option Body) → TypedSo p k o o
  same_code k None = NoCode
  same_code k (Some b) = Same b

  module _ (v : Verifier) (is : IsFor p h v) (k : ℕ) (c : Class) (is_class : slice_get p.classes k ≡ Some c) (j : ℕ) (m : Method) (is_method : slice_get c.methods j ≡ Some m) (b : Body) (has : m.body ≡ Some b) where
    of : IsOf v.program.now v.hierarchy.now
    of = subst (λ q. IsOf q v.hierarchy.now) (sym is.program) (subst (IsOf p) (sym is.hierarchy) resolved.of)

    typed_by : (s : Setting) (set : IsSettingOf v c k m s) (d : Body) → IsCode p m d → (IsOf v.program.now v.hierarchy.now → Finds v.program.now k d.insns s.found.now) → (x : Table)
        → IsTyping s d (begun s d (receiver_of c k m (constructs v.tables m)) (parameters_of v.program.now m.name)) x → Named p c m d
    typed_by s set d here finds x typing = subst (λ (q : Program). Named q c m d) (program p h w resolved v is c k m j b is_class is_method has s set)
        (table s c m ground_here d coded found_here x, typing_named s c m ground_here d coded found_here x (subst (λ z. IsTyping s d z x) entry_same typing))
      where
        ground_here : IsSet s c m
        ground_here = ground p h w resolved v is c k m j b is_class is_method has s set

        coded : IsCode s.program.now m d
        coded = subst (λ (q : Program). IsCode q m d) (sym (program p h w resolved v is c k m j b is_class is_method has s set)) here

        found_here : Finds s.program.now s.class d.insns s.found.now
        found_here = subst (λ q. Finds q s.class d.insns s.found.now) (sym set.program) (subst (λ z. Finds v.program.now z d.insns s.found.now) (sym set.class) (finds of))

        entry_same : begun s d (receiver_of c k m (constructs v.tables m)) (parameters_of v.program.now m.name) ≡ begun s d (receiver_of c s.class m (constructs s.tables.now m)) (parameters_of s.program.now m.name)
        entry_same =
            ap (λ z. begun s d (receiver_of c z m (constructs v.tables m)) (parameters_of v.program.now m.name)) (sym set.class)
            ∙ ap (λ z. begun s d (receiver_of c s.class m (constructs z m)) (parameters_of v.program.now m.name)) (sym set.tables)
            ∙ ap (λ z. begun s d (receiver_of c s.class m (constructs s.tables.now m)) (parameters_of z m.name)) (sym set.program)

    typed_with : (d : Body) → IsCode p m d → (x : Table) → HasTyping v c k m d x → Named p c m d
    typed_with d here x t = typed_by t.setting t.is d here t.finds x t.least.typing

  -- ---- methods

  module _ (q : Program) (new_formed : is_well_formed q ≡ true) (i : Inliner) (edits : List (List (Option Edit))) (left : q ≡ program_by edits p) (program_is : i.known.program.now ≡ p) (verifier : IsFor p h i.verifier) where
    module _ (k : ℕ) (c : Class) (is_class : slice_get p.classes k ≡ Some c) (row : List (Option Edit)) (is_row : slice_get edits k ≡ Some row) (j : ℕ) (m : Method) (is_method : slice_get c.methods j ≡ Some m) where
      -- the new code keeps the rules
      new_code : (d : Body) (lines : List ℕ) → slice_get row j ≡ Some (Some (record { body = d; lines = lines })) → IsCode p m d
      new_code d lines e = code_same p (each_by class_by edits p.classes) m d lines
          (code (program_by edits p) (subst (λ (z : Program). is_well_formed z ≡ true) left new_formed) (sound (program_by edits p) (subst (λ (z : Program). is_well_formed z ≡ true) left new_formed)) k (class_by row c) j (record m { body = Some d; lines = lines }) d
          (get_by class_by edits p.classes k c row is_class is_row) (get_by method_by row c.methods j m (Some (record { body = d; lines = lines })) is_method e) refl)

      stays : OtherNumberedMethod (TypedSo p) p c m m
      stays = record { same = refl; coded = refl; related = same_code (key_in (named_class p c) (named_method p m)) m.body }

      edited : (z : Caller) (chosen : List (Option Callee)) (cells : ℕ) (rows : List Row) → IsCallerOf c (record { class = k; place = j }) m z → HasTried i z cells (length z.body.now.insns) rows chosen
          → slice_get row j ≡ Some (edit_of (new_of i z chosen)) → OtherNumberedMethod (TypedSo p) p c m (method_by (edit_of (new_of i z chosen)) m)
      edited z chosen cells rows is tried there = by chosen refl (tried_room i z cells (length z.body.now.insns) rows chosen tried) there
        where
          new_body : (l : List (Option Callee)) → HasRoom i z cells (spliced_by i z l).body → slice_get row j ≡ Some (Some (record { body = (spliced_by i z l).body; lines = (spliced_by i z l).lines }))
              → OtherNumberedMethod (TypedSo p) p c m (record m { body = Some (spliced_by i z l).body; lines = (spliced_by i z l).lines })
          new_body l room e =
              let t = room.typed in
              let at_class : slice_get i.verifier.program.now.classes z.at.class ≡ Some c = ap₂ (λ (x : Program) (a : MethodAt). slice_get x.classes a.class) verifier.program is.place ∙ is_class in
              let at_method : method_at i.verifier.program.now z.at ≡ Some m = ap₂ (λ (x : Program) (a : MethodAt). method_at x a) verifier.program is.place
              ∙ ap (option_and_then (λ (x : Class). slice_get x.methods j)) is_class ∙ is_method in
              let typing : HasTyping i.verifier c k m (spliced_by i z l).body t.table = subst (λ (a : MethodAt). HasTyping i.verifier c a.class m (spliced_by i z l).body t.table) is.place (t.types c m at_class at_method) in
              record {
                same = refl;
                coded = sym (ap is_some is.code);
                related = subst (λ (o : Option Body). TypedSo p (key_in (named_class p c) (named_method p m)) o (Some (spliced_by i z l).body)) (sym is.code)
                    (New c m z.body.now (spliced_by i z l).body (contains_at p.classes k c is_class) (contains_at c.methods j m is_method) refl
                    (typed_with i.verifier verifier k c is_class j m is_method z.body.now is.code (spliced_by i z l).body (new_code (spliced_by i z l).body (spliced_by i z l).lines e) t.table typing));
              }

          by : (l : List (Option Callee)) → chosen ≡ l → (chosen ≡ []) ⊎ HasRoom i z cells (spliced_by i z chosen).body → slice_get row j ≡ Some (edit_of (new_of i z chosen)) → OtherNumberedMethod (TypedSo p) p c m (method_by (edit_of (new_of i z l)) m)
          by [] e s t = stays
          by (y ∷ ys) e (inl none) t = absurd (let g : (y ∷ ys) ≡ [] = sym e ∙ none in cc)
          by (y ∷ ys) e (inr room) t = new_body (y ∷ ys) (subst (λ (l : List (Option Callee)). HasRoom i z cells (spliced_by i z l).body) e room) (t ∙ ap (λ (l : List (Option Callee)). Some (edit_of (new_of i z l))) e)

      one_method : (x : Option Edit) → slice_get row j ≡ Some x → (d e : Done) (rows : List Row) → LooksAt i c (record { class = k; place = j }) m d rows x e → OtherNumberedMethod (TypedSo p) p c m (method_by x m)
      one_method _ t d _ _ (Bare none) = stays
      one_method _ t d _ _ (Barred none) = stays
      one_method x t d e rows (Looked z _ _ _ admitted is looked) =
          subst (λ (y : Option Edit). OtherNumberedMethod (TypedSo p) p c m (method_by y m)) (sym looked.edit) (edited z looked.chosen d.cells rows is looked.tried (t ∙ ap Some looked.edit))

-- ---- programs

named_code : (p : Program) (k : MethodKey) (x y : Option Body) → TypedSo p k x y → TypedNamed p k (option_map (body_of p) x) (option_map (body_of p) y)
named_code p k _ _ NoCode = NoneNamed
named_code p k _ _ (Same b) = SameNamed (body_of p b)
named_code p k _ _ (New c m b d i j e t) = NewNamed c m (body_of p b) d i j e t

module _ (p : Program) (h : Hierarchy) (w : is_well_formed p ≡ true) (resolved : IsResolved p h) (typed : IsTyped (named p)) where
  regular : IsRegular (named p)
  regular = regular_program p w resolved.of.once typed

  -- the typing of new code is one of the code of the method with its name
  typing_there : (c : NamedClass) (m : NamedMethod) (b : NamedBody) → Contains (named p).classes c → Contains c.methods m → (x : Option NamedBody) → m.body ≡ x → TypedNamed p (key_in c m) x (Some b) → (t : by_name.Table) × by_name.IsTyping (named p) c m b t
  typing_there c m b i j _ has (SameNamed _) = typed.bodies c m b i j has
  typing_there c m _ i j _ has (NewNamed kc km old d ki kj key t) = by_class kc km c m (some_same (named_class p kc) c (sym same_class.0 ∙ same_class.1)) (some_same (named_method p km) m (sym same_method.0 ∙ same_method.1)) t
    where
      there : Contains (named p).classes (named_class p kc)
      there = into_map (named_class p) p.classes kc ki

      within : Contains (named_class p kc).methods (named_method p km)
      within = into_map (named_method p) kc.methods km kj

      same_class : (class_named (named p) c.name ≡ Some (named_class p kc)) × (class_named (named p) c.name ≡ Some c)
      same_class = (ap (λ (z : MethodKey). class_named (named p) z.class) key ∙ regular.named (named_class p kc) there, regular.named c i)

      same_method : (defined_method (named p) (key_in c m) ≡ Some (named_method p km)) × (defined_method (named p) (key_in c m) ≡ Some m)
      same_method = (ap (defined_method (named p)) key ∙ regular.methods (named_class p kc) (named_method p km) there within, regular.methods c m i j)

      by_class : (kc : Class) (km : Method) (c : NamedClass) (m : NamedMethod) → named_class p kc ≡ c → named_method p km ≡ m → Named p kc km d → (t : by_name.Table) × by_name.IsTyping (named p) c m (body_of p d) t
      by_class kc km c m e f x = subst (λ (z : NamedMethod). (t : by_name.Table) × by_name.IsTyping (named p) c z (body_of p d) t) f (subst (λ (z : NamedClass). (t : by_name.Table) × by_name.IsTyping (named p) z (named_method p km) (body_of p d) t) e x)

  pub inlined_typed : (q : Program) (facts : Facts) (admitted : List Bool) (count : ℕ) (origins : List (List Origin)) (rows : List Row) → IsInlined p h facts admitted q count origins rows → is_well_formed q ≡ true → IsTyped (named q)
  inlined_typed q facts admitted count origins rows x formed =
      let i = x.planned.inliner in
      let all : OtherNumberedBodies (TypedSo p) p (program_by x.edits p) = all_classes (TypedSo p) p w i x.edits
      (λ k c g row b j m a y v d e some looks. one_method p h w resolved q formed i x.edits x.program x.planned.for.program x.planned.for.verifier k c g row b j m a y v d e some looks)
      (nothing_done p) x.last rows x.planned.looked in
      others_typed (TypedNamed p) (named p) (named q) (others_named (TypedSo p) (TypedNamed p) p (named_code p) q (subst (λ (z : Program). OtherNumberedBodies (TypedSo p) p z) (sym x.program) all))
      (λ c m b i j r. typing_there c m b i j m.body refl r)
