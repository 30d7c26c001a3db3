-- `power::words::times` meets its contract.
use Rattle.std.proofs.Common.{◌≡◌, arith, length, get_or, take}
use Rattle.std.proofs.lemmas.List.{length-take-le}
use Rattle.power.proofs.WordLaws.{product-fits, times-none, times-next, times-ends, times-carries}
use Rattle.power.proofs.words.times.Goals as goal

pub loop-word-init : goal.loop-word-init
loop-word-init c = times-none _ _

pub overflow_mul-v : goal.overflow_mul-v
overflow_mul-v c = record {
  fits = omega (
    arith,
    product-fits (get_or c.loop-word.word-items c.loop-word.word-index 0) c.args.c 0 (omega arith)
        (omega arith) (omega arith),
  );
}

pub overflow_add-v : goal.overflow_add-v
overflow_add-v c = record {
  fits =
      product-fits (get_or c.loop-word.word-items c.loop-word.word-index 0) c.args.c
      c.loop-word.carry (omega arith) (omega arith) c.loop-word.invariant.carry;
}

pub loop-word-preserved : goal.loop-word-preserved
loop-word-preserved c =
    times-next _ _ _ _ _ (omega arith) (omega arith) (omega arith) c.loop-word.invariant

pub returns-then-carry-eq0 : goal.returns-then-carry-eq0
returns-then-carry-eq0 c =
    let l = c.loop-word in
    let len : length (take c.args.n c.args.a.now) ≡ c.args.n =
    length-take-le c.args.n c.args.a.now (omega arith) in (
      omega arith,
      times-ends _ _ l.word-index l.carry c.args.a.now l.word-items (omega (arith, len))
          (omega (arith, len)) (omega arith) (omega arith) l.invariant,
    )

pub returns : goal.returns
returns c =
    let l = c.loop-word in
    let len : length (take c.args.n c.args.a.now) ≡ c.args.n =
    length-take-le c.args.n c.args.a.now (omega arith) in (
      omega arith,
      times-carries _ _ l.word-index l.carry c.args.a.now l.word-items (omega (arith, len))
          (omega (arith, len)) (omega arith) (omega arith) (omega arith) l.invariant,
    )
