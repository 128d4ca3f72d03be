-- The plans of an instance are one, and so are their printed chains, by the version of its trace.
use Rattle.std.proofs.Common.{◌≡◌, ℕ, inl, inr, List, [], ◌∷◌, length, sym, ◌∙◌}
use Rattle.waff_model.specs.Tree.{Node}
use Rattle.waff_model.specs.declared.message.Version.{Version}
use Rattle.waff_model.specs.declared.message.Version.TheVariants.{V1, V2, V3, V4}
use Rattle.waff_assign.specs.Instance.{Instance}
use Rattle.waff_assign.specs.Order.{Relation}
use Rattle.waff_plan.specs.Chain.{IsPrinted, LeadsToEnd}
use Rattle.waff_plan.specs.Instances.{served_first, started_first, work_of_instance}
use Rattle.waff_plan.specs.Obeys.{AwaitsEarlier, IsForward, IsLeast, IsLinked, StartsIssued}
use Rattle.waff_plan.specs.Serving.{started_before}
use Rattle.waff_plan.specs.Unique.{AreSame}
use Rattle.waff_plan.specs.Work.{Work}
use Rattle.waff_plan.proofs.Forward.{IsOrdered_forward}
use Rattle.waff_plan.proofs.ServingLemmas.{least_served_is_one}
use Rattle.waff_plan.proofs.StartOrder.{IsStartedBefore_forward}
use Rattle.waff_plan.proofs.Uniqueness.{printed_is_one}
use Rattle.waff_list.specs.Unique.{EachRuns}
use Rattle.waff_list.specs.declared.rule.Rule.{Rule}
use Rattle.waff_list.proofs.ServedUniqueness.{plan_served_is_one}
use Rattle.waff_list.proofs.TraceWork.{count_is}
use Rattle.waff_figures.specs.Sweep.{IsPlanOf}
use Rattle.waff_figures.proofs.WaitUnique.{started_same}
use Rattle.waff_assign.specs.Held.{Held}

-- what holds of the instances of files: each message has an affinity, each runs, and each awaits earlier ones
pub record IsSound (instance : Instance) : Type 0 where
  pub same : length instance.assigned ≡ length instance.trace.messages
  pub runs : EachRuns (work_of_instance instance)
  pub earlier : AwaitsEarlier (work_of_instance instance)

-- a printed chain by a relation that tells the same
module _ (before again : Relation) (work : Work) (start : ℕ → ℕ) (to : (i j : ℕ) → before i j → again i j) (from : (i j : ℕ) → again i j → before i j) where
  linked_to : (i m : ℕ) → IsLinked before work i m → IsLinked again work i m
  linked_to i m (inl pair) = inl (to i m pair)
  linked_to i m (inr awaited) = inr awaited

  linked_from : (i m : ℕ) → IsLinked again work i m → IsLinked before work i m
  linked_from i m (inl pair) = inl (from i m pair)
  linked_from i m (inr awaited) = inr awaited

  leads_again : (m : ℕ) (rest : List ℕ) → LeadsToEnd before work start m rest → LeadsToEnd again work start m rest
  leads_again m [] last = last
  leads_again m (next ∷ rest) (latest, later, leads) = (
    record {
      one = linked_to m next latest.one;
      latest = λ i linked. latest.latest i (linked_from i next linked);
      lowest = λ i linked level. latest.lowest i (linked_from i next linked) level;
    },
    later,
    leads_again next rest leads,
  )

  pub printed_again : (chain : List ℕ) → IsPrinted before work start chain → IsPrinted again work start chain
  printed_again [] none = none
  printed_again (m ∷ rest) (first, leads) = ((λ i linked. first i (linked_from i m linked)), leads_again m rest leads)

-- the order of chains goes forward
forward_by : (version : Version) (tree : List Node) (assigned : List Held) (work : Work) → length assigned ≡ work.count → AwaitsEarlier work → EachRuns work
    → (start : ℕ → ℕ) → StartsIssued work start → IsForward (started_before version tree assigned start) work
forward_by V1 tree assigned work count follows runs start issued = IsOrdered_forward tree assigned work count follows
forward_by V2 tree assigned work count follows runs start issued = IsOrdered_forward tree assigned work count follows
forward_by V3 tree assigned work count follows runs start issued = IsStartedBefore_forward tree assigned work count runs start issued follows
forward_by V4 tree assigned work count follows runs start issued = IsStartedBefore_forward tree assigned work count runs start issued follows

module _ (instance : Instance) (sound : IsSound instance) where
  abbrev work : Work
  work = work_of_instance instance

  pub count_in : length instance.assigned ≡ work.count
  count_in = sound.same ∙ sym (count_is instance.trace.messages)

  pub least_in_one : (start other : ℕ → ℕ) → IsLeast (served_first instance start) work start → IsLeast (served_first instance other) work other
      → AreSame work start other
  least_in_one start other one two =
      least_served_is_one instance.trace.version instance.tree instance.assigned work sound.earlier start other one two

  pub rule_in_one : (rule : Rule) (k : ℕ) (start other : ℕ → ℕ) → IsPlanOf rule instance k start → IsPlanOf rule instance k other → AreSame work start other
  rule_in_one rule k start other one two =
      plan_served_is_one instance.trace.version rule instance.tree instance.assigned work count_in sound.earlier sound.runs k start other one two

  pub chain_in_one : (start other : ℕ → ℕ) (chain other_chain : List ℕ) → StartsIssued work start → AreSame work start other
      → IsPrinted (started_first instance start) work start chain → IsPrinted (started_first instance other) work other other_chain → chain ≡ other_chain
  chain_in_one start other chain other_chain issued same one two =
      let version = instance.trace.version in
      let back : AreSame work other start = λ m number. sym (same m number) in
      let forward = forward_by version instance.tree instance.assigned work count_in sound.earlier sound.runs start issued in
      let again = printed_again (started_first instance other) (started_first instance start) work other
      (started_same version instance.tree instance.assigned work count_in other start back)
      (started_same version instance.tree instance.assigned work count_in start other same) other_chain two in
      printed_is_one (started_first instance start) work forward start other chain other_chain same one again
