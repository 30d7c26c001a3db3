-- `frames::writing::put_hour_fields` meets its contract.
use Prim.Native.Nat.{ℕ}
use mathlib.Core.Path.{◌≡◌, refl, ap, ◌∙◌}
use mathlib.Core.List.{List, [], ◌∷◌}
use native.Mathlib.Omega.{arith}
use borrow.Author.Rules.{rules}
use lib.Seq.{sets}
use Rattle.frames.proofs.SignedLaws.{plain}
use Rattle.frames.specs.Temperature.{complement_of}
use Rattle.frames.specs.declared.records.Hour.{Hour}
use Rattle.frames.specs.Digits.{byte, number}
use Rattle.frames.specs.Kinds.{one, widths_of}
use Rattle.frames.specs.Fields.{digits_of}
use Rattle.frames.specs.Layout.{soil_number, ozone_number, vapour_number, hour_numbers, air_kind}
use Rattle.frames.proofs.WriterLaws.{set-next}
use Rattle.frames.proofs.writing.put_hour_fields.Goals as goal

same :
    (b : List ℕ) (h : Hour) (k o t v n : ℕ) → k ≡ air_kind h.air → o ≡ ozone_number h.ozone →
    t ≡ complement_of h.temperature → v ≡ vapour_number h.air → n ≡ soil_number h.soil
    → sets b 0
    (byte k
    (number h.day
    (byte h.hour
    (number o
    (number h.ppfd (number h.radiation (number t (number v (number h.wind (number n []))))))))))
    ≡ sets b 0 (digits_of (one ∷ widths_of 2) (air_kind h.air ∷ hour_numbers h))
same b h k o t v n e f g i j = rw (e, f, g, i, j)

pub returns : goal.returns
returns c = let h = c.args.h in
    let t = c.complement-t.result in
    let o = c.ozone_number-ozone.result in
    let v = c.vapour_number-vapour.result in
    let k = c.air_kind.result in
    let day =
    set-next _ (byte k []) (number h.day []) _ _ _ c.put_byte.ensures refl
    (omega arith) c.put_number.ensures in
    let hour =
    set-next _ (byte k (number h.day [])) (byte h.hour []) _ _ _ day refl
    (omega arith) c.put_byte-2.ensures in
    let four =
    set-next _ (byte k (number h.day (byte h.hour [])))
    (number o (number h.ppfd (number h.radiation (number t [])))) _ _ _ hour refl
    (omega arith) c.put_numbers.ensures in
    let two =
    set-next _
    (byte k
    (number h.day (byte h.hour (number o (number h.ppfd (number h.radiation (number t [])))))))
    (number v (number h.wind [])) _ _ _ four refl (omega arith) c.put_numbers-2.ensures in
    let soil =
    set-next _
    (byte k
    (number h.day
    (byte h.hour
    (number o (number h.ppfd (number h.radiation (number t (number v (number h.wind [])))))))))
    (number c.soil_number-n.result []) _ _ _ two refl (omega arith) c.put_number-2.ensures in
    soil
    ∙ same _ h k o t v _ c.air_kind.ensures c.ozone_number-ozone.ensures
    (c.complement-t.ensures ∙ ap complement_of (plain h.temperature (search rules)))
    c.vapour_number-vapour.ensures c.soil_number-n.ensures
