-- Hours without ozone: a filling is the hour with a number from the one read as 0 to the one read
-- as the ceiling, and row 10 lets it pass.
use Rattle.std.specs.Prelude.{Option, Some, None}
use Prim.Native.Nat.{ℕ, zero, suc, ◌≤◌}
use mathlib.Core.Path.{◌≡◌, refl, sym}
use mathlib.Core.Bool.{true, false, true≢false, false≢true}
use native.Mathlib.Nat.{le_refl, le_trans}
use native.Mathlib.Omega.{arith}
use borrow.Author.Tests.{ltb-false, le-ltb, ne_eqb}
use lib.Dec.{ltb}
use Rattle.frames.specs.declared.records.Hour.{Hour}
use Rattle.frames.specs.declared.records.Record.{Record}
use Rattle.frames.specs.Answers.{accepted}
use Rattle.frames.specs.Ozone.{is_missing, tenths_or, with_ozone, read_as, Fills}
use Rattle.frames.specs.Ranges.{ozone_out, ceiling_out, checked}
use Rattle.frames.proofs.AnswerLaws.{or-neither, row-passed}

-- ---- the number read

pub tenths_or-mono : {m n : ℕ} (o : Option ℕ) → m ≤ n → tenths_or m o ≤ tenths_or n o
tenths_or-mono (Some t) h = le_refl t
tenths_or-mono None h = h

tenths_or-le : {m : ℕ} (o : Option ℕ) → ozone_out o ≡ false → m ≤ 5000 → tenths_or m o ≤ 5000
tenths_or-le (Some t) e h = ltb-false 5000 t e
tenths_or-le None e h = h

pub missing-is : (m : ℕ) (o : Option ℕ) → is_missing o ≡ true → tenths_or m o ≡ m
missing-is m (Some t) e = absurd (false≢true e)
missing-is m None e = refl

-- row 17
pub ceiling-le : (ceiling : ℕ) → ceiling_out ceiling ≡ false → ceiling ≤ 5000
ceiling-le zero e = omega arith
ceiling-le (suc c) e =
    ltb-false 5000 (suc c)
    (or-neither (ltb (suc c) 1) _ (rw (ne_eqb (suc c) 0 (omega arith)) at e)).1

-- ---- the hour with a number up to the one read

own_read : (m : ℕ) (h : Hour) (o : Option ℕ) → h.ozone ≡ o → is_missing o ≡ false → read_as m h ≡ h
own_read m h (Some n) e given = rw e refl
own_read m h None e given = absurd (true≢false given)

-- an hour with ozone is read as it is
pub read_is : (m : ℕ) (h : Hour) → is_missing h.ozone ≡ false → read_as m h ≡ h
read_is m h given = own_read m h h.ozone refl given

-- row 10
pub ozone-passed :
    (n : ℕ) (h : Hour) → n ≤ 5000 → checked (Record.Hour h) ≡ accepted tt →
    checked (Record.Hour (with_ozone n h)) ≡ accepted tt
unfolding checked
ozone-passed n h small passed =
    rw (le-ltb 5000 n small) (row-passed (ozone_out h.ozone) _ _ tt passed).1

-- the hour's own ozone is in range
own-le :
    (m : ℕ) (h : Hour) → m ≤ 5000 → checked (Record.Hour h) ≡ accepted tt →
    tenths_or m h.ozone ≤ 5000
unfolding checked
own-le m h small passed =
    tenths_or-le h.ozone (row-passed (ozone_out h.ozone) _ _ tt passed).0 small

pub read-passed :
    (m : ℕ) (h : Hour) → m ≤ 5000 → checked (Record.Hour h) ≡ accepted tt →
    checked (Record.Hour (read_as m h)) ≡ accepted tt
read-passed m h small passed = ozone-passed (tenths_or m h.ozone) h (own-le m h small passed) passed

-- ---- a filling

pub record Within (ceiling : ℕ) (h f : Hour) : Type 0 where
  pub ozone : ℕ
  pub is : f ≡ with_ozone ozone h
  pub above : tenths_or 0 h.ozone ≤ ozone
  pub below : ozone ≤ tenths_or ceiling h.ozone

pub filling-within : (ceiling : ℕ) (h f : Hour) → Fills ceiling h f → Within ceiling h f
filling-within ceiling h f (Fills.given e) =
    record {
      ozone = tenths_or 0 h.ozone;
      is = sym (read_is 0 h e);
      above = le_refl _;
      below = tenths_or-mono h.ozone (omega arith);
    }
filling-within ceiling h f (Fills.filled e n le) =
    record {
      ozone = n;
      is = refl;
      above = omega (arith, missing-is 0 h.ozone e);
      below = omega (arith, missing-is ceiling h.ozone e);
    }

pub filling-passed :
    (ceiling : ℕ) (h f : Hour) → ceiling ≤ 5000 → Fills ceiling h f →
    checked (Record.Hour h) ≡ accepted tt → checked (Record.Hour f) ≡ accepted tt
filling-passed ceiling h f small fills passed =
    let w = filling-within ceiling h f fills in
    rw w.is (ozone-passed w.ozone h (le_trans w.below (own-le ceiling h small passed)) passed)
