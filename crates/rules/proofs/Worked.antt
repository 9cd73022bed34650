-- Evidence beside the definitions, which name none of it: K1 to K10 (Figures), figures worked by hand (ByHand), three days with the figures
-- of an implementation written from the papers by other hands (Base1 to Base3) and each refusal on both sides of its boundary (Refused),
-- all computed on the definitions (Lemma). Of document 02's requests: for accreditation within the day, bids pulled in a reschedule, schedules
-- slightly over the bid and ad hoc schedules a day worked by hand (Reschedule, Pulled0, Excess0, AdHoc0; HandDays), and three of that
-- implementation's and the refusals (Accredited1 to Accredited3, Pulled1 to Pulled3, Excess1 to Excess3, AdHoc1 to AdHoc3; Later; the refusals of
-- ad hoc schedules are AdHocRefused, in HandDays). Of its days that implementation's report and steps were taken; their books are written from
-- the report by document 01's layout. Of uplift by schedule: rows of totals (UpliftRows) and days (UpliftDays, Later). Of no shipper out of pocket
-- by a smaller bid: a day worked by hand (OpenRises; HandDays). Single definitions on small cases (SmallCases) and on small lines and files
-- (SmallLines). A lemma names the one computed before it, in this order: small-cases, uplift_rows, by-hand, small_lines, figures, uplift_days,
-- hand_days, ad_hoc_refused, worked, and those of Later.
pub mod Cases
pub mod Opened
pub mod TableLine
pub mod SmallCases
pub mod UpliftRows
pub mod ByHand
pub mod SmallLines
pub mod Figures
pub mod Base1
pub mod Base2
pub mod Base3
pub mod Reschedule
pub mod Accredited1
pub mod Accredited2
pub mod Accredited3
pub mod Pulled0
pub mod Pulled1
pub mod Pulled2
pub mod Pulled3
pub mod Excess0
pub mod Excess1
pub mod Excess2
pub mod Excess3
pub mod AdHoc0
pub mod AdHoc1
pub mod AdHoc2
pub mod AdHoc3
pub mod OpenRises
pub mod Refused
pub mod AdHocRefused
pub mod Laws
pub mod UpliftDays
pub mod HandDays
pub mod Lemma
pub mod Later
