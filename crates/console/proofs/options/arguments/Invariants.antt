-- The loop of `console::options::arguments`: there are fewer names than arguments.
use Prim.Native.Nat.{◌<◌}
use Rattle.console.proofs.options.arguments.Given as goal

abbrev pub invariant-loop-i : goal.invariant-loop-i
invariant-loop-i l = l.names < l.i
