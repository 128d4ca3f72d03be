use Rattle.waff_model.proofs.trace.Trace.of_messages.Goals as goal

pub invariant_of-result : goal.invariant_of-result
invariant_of-result c = record { messages = rw (c.in-Ok.ensures, c.spaces.ensures) c.requires.messages; few = c.requires.few; few_ops = c.requires.few_ops; lists = c.requires.lists; few_awaited = c.requires.few_awaited }
