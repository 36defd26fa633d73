-- What the annotations and first values of live classes and members name is live.
use Rattle.std.proofs.Common.{List, [], ◌∷◌, ◌++◌, map, ap, ◌∙◌, subst}
use Rattle.std.specs.Prelude.{flat_map}
use Rattle.program_model.specs.declared.value.Mark.{Mark}
use Rattle.program_model.specs.declared.program.Program.{Program}
use Rattle.program_model.specs.declared.pass.Outside.{Outside}
use Rattle.call_graph.specs.Bases.{bases_of}
use Rattle.call_graph.specs.declared.live_set.LiveSet.{LiveSet}
use Rattle.call_graph.specs.Names.{marks_names, first_names, code_names}
use Rattle.call_graph.specs.Follows as follow
use Rattle.call_graph.specs.Follows.{method_types, field_types, field_names, names_of_method, all_named}
use Rattle.dalvik_defs.specs.Naming.{mark_of, named_field, named_method, named}
use Rattle.dalvik_defs.specs.Find.{defined_field, defined_method}
use Rattle.pass_defs.specs.Live.{HasMentions, KeepsMentions}
use Rattle.pass_defs.specs.Mentions.{Mentions, all_of, in_marks, in_first, in_field, in_method, in_class}
use Rattle.reach_bridge.specs.Names.{family_of}
use Rattle.reach.specs.Marked.{IsMarked}
use Rattle.reach_bridge.proofs.Held.{stands, field_number, method_number}
use Rattle.reach_bridge.proofs.Mentioned.{Holds, met_back, all_held}
use Rattle.reach_bridge.proofs.Owned.{own_field, own_method}
use Rattle.reach_bridge.proofs.Coded.{NamesHeld, field_facts_met, body_facts_met}
use Rattle.reach_bridge.proofs.Upward.{own, marks_met}
use Rattle.reach_bridge.proofs.Noted.{none_holds, holds_more, held_front, held_back, marks_hold, first_holds}

parameters_hold : (p : Program) (s : LiveSet) (mss : List (List Mark)) → NamesHeld p s (flat_map marks_names mss) → Holds p s (all_of (map in_marks (map (map (mark_of p)) mss)))
parameters_hold p s [] h = none_holds p s
parameters_hold p s (ms ∷ mss) h = holds_more p s (in_marks (map (mark_of p) ms)) (map in_marks (map (map (mark_of p)) mss))
    (marks_hold p s ms (held_front p s (marks_names ms) (flat_map marks_names mss) h)) (parameters_hold p s mss (held_back p s (marks_names ms) (flat_map marks_names mss) h))

has_mentions : (p : Program) (s : LiveSet) (m : Mentions) → Holds p s m → HasMentions (named p) (family_of p s) m
has_mentions p s m h = record {
  types = λ t c. h.types t (stands m.types t c);
  fields = λ k f c. h.fields k (stands m.fields k c) f;
  methods = λ k f c. h.methods k (stands m.methods k c) f;
}

module _ (p : Program) (o : Outside) (s : LiveSet) (g : IsMarked p o s) where
  pub keeps_mentions : KeepsMentions (named p) (family_of p s)
  keeps_mentions = record {
    classes = λ t c is live.
        let w = own p o s g t c is live in
        let h = marks_hold p s w.class.marks (all_held p o s g (marks_names w.class.marks) (marks_met p o s g t c is live)) in
        has_mentions p s (in_class c) (subst (λ z. Holds p s (in_class z)) w.is h);
    fields = λ k f is live.
        let n = field_number p s k live in
        let w = own_field p o s g n.number n.short f (ap (defined_field (named p)) n.is ∙ is) in
        let names = all_held p o s g (field_names (follow.own_field p n.number))
        (met_back p o s g (field_types p (bases_of p) n.number) (all_named p (bases_of p) (field_names (follow.own_field p n.number))) (field_facts_met p o s g n.number n.marked)) in
        let held : NamesHeld p s (marks_names w.field.marks ++ first_names w.field.first) = subst (λ z. NamesHeld p s (field_names z)) w.own names in
        let marks = marks_hold p s w.field.marks (held_front p s (marks_names w.field.marks) (first_names w.field.first) held) in
        let first = first_holds p s w.field.first (held_back p s (marks_names w.field.marks) (first_names w.field.first) held) in
        has_mentions p s (in_field f) (subst (λ z. Holds p s (in_field z)) w.is
        (holds_more p s (in_marks (named_field p w.field).marks) (in_first (named_field p w.field).first ∷ []) marks (holds_more p s (in_first (named_field p w.field).first) [] first (none_holds p s))));
    methods = λ k m is live.
        let n = method_number p s k live in
        let w = own_method p o s g n.number n.short m (ap (defined_method (named p)) n.is ∙ is) in
        let names = all_held p o s g (names_of_method (follow.own_method p n.number))
        (met_back p o s g (method_types p (bases_of p) n.number) (all_named p (bases_of p) (names_of_method (follow.own_method p n.number))) (body_facts_met p o s g n.number n.marked)) in
        let held : NamesHeld p s (marks_names w.method.marks ++ (flat_map marks_names w.method.parameter_marks ++ code_names w.method.body)) = subst (λ z. NamesHeld p s (names_of_method z)) w.own names in
        let rest = held_back p s (marks_names w.method.marks) (flat_map marks_names w.method.parameter_marks ++ code_names w.method.body) held in
        let marks = marks_hold p s w.method.marks (held_front p s (marks_names w.method.marks) (flat_map marks_names w.method.parameter_marks ++ code_names w.method.body) held) in
        let parameters = parameters_hold p s w.method.parameter_marks (held_front p s (flat_map marks_names w.method.parameter_marks) (code_names w.method.body) rest) in
        has_mentions p s (in_method m) (subst (λ z. Holds p s (in_method z)) w.is
        (holds_more p s (in_marks (named_method p w.method).marks) (map in_marks (named_method p w.method).parameter_marks) marks parameters));
  }
