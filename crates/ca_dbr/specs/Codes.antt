-- Working: the code of elements, by which a proof tells them apart.
use Rattle.std.specs.Prelude.{ℕ, ◌≡◌, ◌==◌, ℤ, List, [], ◌∷◌, cond, refl}
use Rattle.std.specs.Coded.{Coded, code_by, coded×, coded_ℕ, coded_ℤ, coded_list}
use mathlib.Core.Path.{ap}
use Rattle.ca_dbr.specs.DisplayData.{DisplayData}
use Rattle.ca_dbr.specs.Elements.{Elements, strings, ints, floats, enums, chars, longs, doubles}
use Rattle.ca_dbr.specs.Elements.{displayed}

-- display data are stored as the tuple of their fields
abbrev data_code : Coded DisplayData
data_code =
    code_by
    (List ℕ × (ℤ × (List ℕ × List (List ℕ))))
    (coded× (coded_list coded_ℕ)
    (coded× coded_ℤ (coded× (coded_list coded_ℕ) (coded_list (coded_list coded_ℕ)))))
    (λ d. (d.units, (d.precision, (d.limits, d.states))))
    (λ p. record { units = p.0; precision = p.1.0; limits = p.1.1.0; states = p.1.1.1 })
    (λ _. refl)

-- all display data of elements, the number of their type, and the elements in the list of their
-- kind
abbrev Parts : Type 0
Parts = List DisplayData × (ℕ × (List (List ℕ) × (List ℤ × List ℕ)))

abbrev to_parts : Elements → Parts
to_parts (strings xs) = ([], (0, (xs, ([], []))))
to_parts (ints xs) = ([], (1, ([], (xs, []))))
to_parts (floats xs) = ([], (2, ([], ([], xs))))
to_parts (enums xs) = ([], (3, ([], ([], xs))))
to_parts (chars xs) = ([], (4, ([], ([], xs))))
to_parts (longs xs) = ([], (5, ([], (xs, []))))
to_parts (doubles xs) = ([], (6, ([], ([], xs))))
to_parts (displayed d e) = (d ∷ (to_parts e).0, (to_parts e).1)

abbrev from_lists : ℕ × (List (List ℕ) × (List ℤ × List ℕ)) → Elements
from_lists p =
    cond (p.0 == 0) (strings p.1.0)
    (cond (p.0 == 1) (ints p.1.1.0)
    (cond (p.0 == 2) (floats p.1.1.1)
    (cond (p.0 == 3) (enums p.1.1.1)
    (cond (p.0 == 4) (chars p.1.1.1) (cond (p.0 == 5) (longs p.1.1.0) (doubles p.1.1.1))))))

abbrev with_all : List DisplayData → Elements → Elements
with_all [] e = e
with_all (d ∷ ds) e = displayed d (with_all ds e)

abbrev from_parts : Parts → Elements
from_parts p = with_all p.0 (from_lists p.1)

pub from_parts-to_parts : (e : Elements) → from_parts (to_parts e) ≡ e
from_parts-to_parts (strings xs) = refl
from_parts-to_parts (ints xs) = refl
from_parts-to_parts (floats xs) = refl
from_parts-to_parts (enums xs) = refl
from_parts-to_parts (chars xs) = refl
from_parts-to_parts (longs xs) = refl
from_parts-to_parts (doubles xs) = refl
from_parts-to_parts (displayed d e) = ap (displayed d) (from_parts-to_parts e)

abbrev pub elements_code : Coded Elements
elements_code =
    code_by
    Parts
    (coded× (coded_list data_code)
    (coded× coded_ℕ
    (coded× (coded_list (coded_list coded_ℕ)) (coded× (coded_list coded_ℤ) (coded_list coded_ℕ)))))
    to_parts
    from_parts
    from_parts-to_parts
