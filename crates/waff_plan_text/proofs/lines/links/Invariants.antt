use Rattle.std.proofs.Common.{◌≡◌, All, drop, length}
use Rattle.waff_parse.specs.Texts.{parts}
use Rattle.waff_parse.specs.Walks.{walk, with_front}
use Rattle.waff_plan.specs.Chain.{IsAmongFirst}
use Rattle.waff_plan_text.specs.Summaries.{link_of, same}
use Rattle.waff_plan_text.proofs.lines.links.Given as goal

abbrev pub invariant-loop-link : goal.invariant-loop-link
invariant-loop-link l = record {
  count : length l.chain.items ≡ length l.yielded;
  each : All (IsAmongFirst l.messages) l.chain.items;
  links : with_front l.chain.items (walk link_of same l.messages (drop (length l.yielded) (parts 32 l.text)))
      ≡ walk link_of same l.messages (parts 32 l.text);
}
